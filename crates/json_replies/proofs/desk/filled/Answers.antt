use Rattle.std.proofs.Common.{◌≡◌, ℕ, ◌∙◌, sym, ap, arith}
use Rattle.needed_items.proofs.ItemLaws.{laws_of}
use Rattle.json_replies.proofs.Filling.{none_tried, item_stays, item_goes, all_tried}
use Rattle.json_replies.proofs.desk.filled.Goals.{then-not-is_filled_in, else-not-is_filled_in}
use Rattle.json_replies.proofs.desk.filled.Goals as goal

pub loop-item-init : goal.loop-item-init
loop-item-init g c =
    c.full-filled.ensures ∙ none_tried g.P.Rules (laws_of g.met.P.Rules) c.args.puzzle.now c.args.grid.now c.requires

pub loop-item-preserved : goal.loop-item-preserved
loop-item-preserved g c =
    let f = g.P.Rules in
    let laws = laws_of g.met.P.Rules in
    elim c.if-not-is_filled_in.branch [
      | then-not-is_filled_in w ↦ item_goes f laws c.args.puzzle.now c.args.grid.now c.requires c.loop-item.filled
          c.if-not-is_filled_in.filled c.loop-item.item (sym c.is_filled_in.ensures ∙ w.if-not-is_filled_in.true) c.loop-item.invariant
          (w.filled-is ∙ w.drop_item.ensures)
      | else-not-is_filled_in w ↦ item_stays f laws c.args.puzzle.now c.args.grid.now c.requires c.if-not-is_filled_in.filled
          c.loop-item.item (sym c.is_filled_in.ensures ∙ w.if-not-is_filled_in.false) (w.filled-is ∙ c.loop-item.invariant)
    ]

pub returns : goal.returns
returns g c =
    let f = g.P.Rules in
    let all : c.loop-item.item ≡ c.item_count-count.result = omega (arith, c.loop-item-test.false, c.loop-item.auto.item-end) in
    all_tried f (laws_of g.met.P.Rules) c.args.puzzle.now c.args.grid.now c.requires c.loop-item.filled c.loop-item.item
    (all ∙ c.item_count-count.ensures ∙ ap (λ (w : ℕ). f.items_of w) c.size.ensures.value) c.loop-item.invariant

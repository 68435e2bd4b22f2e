use Rattle.std.proofs.Common.{ℕ, List, [], ◌∷◌, ◌++◌, take, sym, ◌∙◌, ap, subst, arith}
use Rattle.std.proofs.lemmas.List.{take_more}
use Rattle.needed_items.specs.InTurn.{IsLeftInTurn, items_in}
use Rattle.needed_items.proofs.InTurn.{in_turn_both}
use Rattle.needed_items.proofs.in_turn.left_in_turn.Goals as goal

pub loop-k-preserved : goal.loop-k-preserved
loop-k-preserved g c =
    let items = items_in c.args.order.now in
    let Fails = g.T.Test.fails c.args.test.now in
    let more = take_more items c.loop-k.k 0 (omega (arith, c.loop-k-test.true, c.len-k-end.ensures))
    ∙ ap (λ (item : ℕ). take c.loop-k.k items ++ item ∷ []) (sym c.item.ensures) in (
      subst (λ (order : List ℕ). IsLeftInTurn g.P.Rules Fails order c.args.puzzle.now c.tried-left.result) (sym more)
          (in_turn_both g.P.Rules Fails (take c.loop-k.k items) (c.item.result ∷ []) c.args.puzzle.now c.loop-k.left
          c.tried-left.result
          c.loop-k.invariant.0 c.tried-left.ensures.in_turn),
      c.tried-left.ensures.passes,
      c.tried-left.ensures.size ∙ c.loop-k.invariant.2,
    )

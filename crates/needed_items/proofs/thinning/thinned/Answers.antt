use Rattle.std.proofs.Common.{ℕ, ◌∙◌, ap}
use Rattle.needed_items.specs.Needed.{HasOnly}
use Rattle.needed_items.specs.InTurn.{HasSeveral}
use Rattle.needed_items.proofs.ItemLaws.{laws_of}
use Rattle.needed_items.proofs.SecondSolutions.{not_two_of_only}
use Rattle.needed_items.proofs.InTurn.{falling_below, several_kept, thinned_in_turn}
use Rattle.needed_items.proofs.thinning.thinned.Goals as goal

pub left_in_turn-requires-clause-inside : goal.left_in_turn-requires-clause-inside
left_in_turn-requires-clause-inside g c = λ k.
    falling_below c.item_count-count.result _ k
    (c.item_count-count.ensures ∙ ap (λ (w : ℕ). g.P.Rules.items_of w) c.size.ensures.value)

pub returns-clause-thinned : goal.returns-clause-thinned
returns-clause-thinned g c =
    let f = g.P.Rules in
    let laws = laws_of g.met.P.Rules in
    thinned_in_turn f (HasOnly f c.args.grid.now) (HasSeveral f) c.args.puzzle.now c.left_in_turn.result
    c.item_count-count.result laws c.size.ensures.valid
    (several_kept f c.args.puzzle.now laws c.size.ensures.valid) (λ r. not_two_of_only (f.puzzle r) c.args.grid.now)
    (c.item_count-count.ensures ∙ ap (λ (w : ℕ). f.items_of w) c.size.ensures.value) c.left_in_turn.ensures.passes
    c.left_in_turn.ensures.in_turn

use Rattle.std.proofs.Common.{ℕ, ◌∙◌, ap, sym}
use Rattle.line_steps.specs.Reasons.{StruckBy}
use Rattle.needed_items.proofs.ItemLaws.{laws_of}
use Rattle.needed_items.proofs.InTurn.{cut_in_turn, falling_below, in_turn_both, thinned_in_turn}
use Rattle.fair_games.specs.FairGames.{IsBeyondGrade, IsByGrade}
use Rattle.fair_games.proofs.PruneSteps.{beyond_kept, steps_of}
use Rattle.fair_games.proofs.TriedFirst.{thinned_before}
use Rattle.fair_games.proofs.thinning.thinned_by.Goals as goal

pub left_in_turn-requires-clause-inside : goal.left_in_turn-requires-clause-inside
left_in_turn-requires-clause-inside g c =
    let f = g.P.Rules in
    let Struck = StruckBy f.puzzle g.P.Steps.own in
    let left = cut_in_turn f (IsBeyondGrade f Struck c.args.grade) _ c.args.puzzle.now c.left_in_turn-left.result
    (laws_of g.met.P.Rules) c.size.ensures.valid c.left_in_turn-left.ensures.in_turn in
    λ k. falling_below c.item_count-count.result _ k
    (c.item_count-count.ensures ∙ ap (λ (w : ℕ). f.items_of w) (c.size.ensures.value ∙ sym left.size))

pub returns-clause-thinned : goal.returns-clause-thinned
returns-clause-thinned g c =
    let f = g.P.Rules in
    let Struck = StruckBy f.puzzle g.P.Steps.own in
    let Passes = IsByGrade f Struck c.args.grade in
    let Fails = IsBeyondGrade f Struck c.args.grade in
    let p = c.args.puzzle.now in
    let mid = c.left_in_turn-left.result in
    let laws = laws_of g.met.P.Rules in
    let steps = steps_of f g.P.Steps.own laws g.met.P.Steps.own_less g.met.P.Steps.own_sound g.met.P.Steps.own_cut in
    let left = cut_in_turn f Fails _ p mid laws c.size.ensures.valid c.left_in_turn-left.ensures.in_turn in
    thinned_before f Passes Fails _ p mid c.left_in_turn.result laws c.size.ensures.valid
    (in_turn_both f Fails _ _ p mid c.left_in_turn.result c.left_in_turn-left.ensures.in_turn c.left_in_turn.ensures.in_turn)
    (thinned_in_turn f Passes Fails mid c.left_in_turn.result c.item_count-count.result laws left.valid
    (beyond_kept f Struck steps c.args.grade mid left.valid c.left_in_turn-left.ensures.passes) (λ r passes fails. fails passes)
    (c.item_count-count.ensures ∙ ap (λ (w : ℕ). f.items_of w) (c.size.ensures.value ∙ sym left.size))
    c.left_in_turn.ensures.passes c.left_in_turn.ensures.in_turn)

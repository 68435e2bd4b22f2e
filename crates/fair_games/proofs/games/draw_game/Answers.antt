use Rattle.line_steps.specs.Reasons.{StruckBy}
use Rattle.std.proofs.Common.{◌≡◌, ℕ, ◌*◌, ◌≤◌, sym, ◌∙◌, ap, subst, arith}
use Rattle.needed_items.proofs.ItemLaws.{laws_of}
use Rattle.fair_games.specs.Pruned.{IsTried}
use Rattle.fair_games.proofs.PruneSteps.{HasSteps, steps_of, pruned_cut}
use Rattle.fair_games.proofs.FairSteps.{game_needs, all_items, first_given}
use Rattle.fair_games.proofs.games.draw_game.Goals as goal
use Rattle.fair_games.proofs.games.draw_game.Given.{Over}

-- the laws of the puzzle's steps
steps : (g : Over) → HasSteps g.P.Rules (StruckBy g.P.Rules.puzzle g.P.Steps.own)
steps g = steps_of g.P.Rules g.P.Steps.own (laws_of g.met.P.Rules) g.met.P.Steps.own_less g.met.P.Steps.own_sound g.met.P.Steps.own_cut

pub returns-clause-needed : goal.returns-clause-needed
returns-clause-needed g c =
    let size = c.args.size in
    let items = g.P.Rules.items_of size in
    let width : c.get-width.result ≡ size = c.get-width.ensures.value in
    let cells : c.get-width.result * c.get-width.result ≡ size * size = ap (λ (n : ℕ). n * n) width in
    let some : size * size ≤ items =
    g.met.P.FairGame.some_items size (omega (arith, width, c.get-width.ensures.smallest)) (omega (arith, width, c.get-width.ensures.largest)) in
    game_needs g.P.Rules (StruckBy g.P.Rules.puzzle g.P.Steps.own) (steps g) c.args.grade (g.P.FairGame.trial_of c.args.grade) size c.draw_square-grid.result
    c.as_slice.result.now c.pruned.result c.draw_square-grid.ensures.size c.pruned.ensures.pruned
    (λ i below low. subst (IsTried i) (sym c.as_slice.ensures.value)
    (c.draw_trial-order.ensures.tried i (all_items c.item_count.result items (c.get-width.result * c.get-width.result) (size * size) i c.item_count.ensures cells some below)
    (λ alone. first_given c.item_count.result items (c.get-width.result * c.get-width.result) (size * size) i c.item_count.ensures cells
    (low (sym c.trial.ensures ∙ alone)))))

pub returns-clause-follows : goal.returns-clause-follows
returns-clause-follows g c =
    let square = c.draw_square-grid.result in
    let pruned = c.pruned.ensures.pruned in
    let p = c.pruned.result in (
      square,
      record {
        solves = (pruned_cut g.P.Rules _ square _ p (laws_of g.met.P.Rules) pruned).solves;
        follows = c.pruned.ensures.follows;
      },
    )

use Rattle.line_steps.specs.Laws.Less.{all_less}
use Rattle.line_steps.specs.Reasons.{StruckBy}
use Rattle.std.proofs.Common.{ℕ, ◌<◌, sym, subst}
use Rattle.std.specs.List.{slice_index}
use Rattle.needed_items.specs.InTurn.{IsLeftInTurn}
use Rattle.needed_items.proofs.ItemLaws.{laws_of}
use Rattle.fair_games.specs.Fair.{FailsBy}
use Rattle.fair_games.specs.FairGames.{IsBeyondGrade, IsByGrade}
use Rattle.fair_games.proofs.FullGivens.{full_follows}
use Rattle.fair_games.proofs.PruneSteps.{HasSteps, steps_of, pruned_cut, square_follows, tried_by_square}
use Rattle.fair_games.proofs.pruning.pruned.Goals as goal
use Rattle.fair_games.proofs.pruning.pruned.Given.{Over}

-- the laws of the puzzle's steps
steps : (g : Over) → HasSteps g.P.Rules (StruckBy g.P.Rules.puzzle g.P.Steps.own)
steps g =
    steps_of g.P.Rules g.P.Steps.own (laws_of g.met.P.Rules) g.met.P.Steps.own_less g.met.P.Steps.own_sound
    g.met.P.Steps.own_cut

pub left_in_turn-requires-clause-passes : goal.left_in_turn-requires-clause-passes
left_in_turn-requires-clause-passes g c =
    let f = g.P.Rules in
    let Struck = StruckBy f.puzzle g.P.Steps.own in
    let square = c.args.grid.now in
    let full = f.full_of square in
    subst (IsByGrade f Struck c.args.grade) (sym c.full.ensures) (
      square,
      record {
        solves = g.met.P.Rules.full_solved square c.size-size.ensures.valid c.requires.latin;
        follows = full_follows f Struck (laws_of g.met.P.Rules) c.args.grade square (all_less (f.puzzle full) (g.P.Steps.own full) (g.met.P.Steps.own_less full))
            (λ d at cell value h. h) c.size-size.ensures.valid c.requires.latin;
      },
    )

pub left_in_turn-requires-clause-inside : goal.left_in_turn-requires-clause-inside
left_in_turn-requires-clause-inside g c = λ k inside.
    let Fits : g.row.P.Denot → Type 0 = λ p. slice_index c.args.order.now k < g.P.Rules.items_of
    (g.P.Rules.puzzle p).size in
    subst Fits (sym c.full.ensures) (subst (λ (w : ℕ). slice_index c.args.order.now k < g.P.Rules.items_of w)
    (sym (g.met.P.Rules.full_size c.args.grid.now c.size-size.ensures.valid c.requires.latin))
    (c.requires.trial.items k inside))

pub returns-clause-pruned : goal.returns-clause-pruned
returns-clause-pruned g c =
    let f = g.P.Rules in
    let Struck = StruckBy f.puzzle g.P.Steps.own in
    let square = c.args.grid.now in
    let is_grid = c.size-size.ensures.valid in
    let laws = laws_of g.met.P.Rules in
    record {
      is_grid = is_grid;
      is_latin = c.requires.latin;
      is_trial = c.requires.trial;
      in_turn = tried_by_square f Struck (steps g) c.args.grade square c.args.order.now (f.full_of square) c.left_in_turn.result
          (laws.full_valid square is_grid c.requires.latin) (laws.full_solved square is_grid c.requires.latin)
          (subst (λ p. IsLeftInTurn f (IsBeyondGrade f Struck c.args.grade) c.args.order.now p c.left_in_turn.result) c.full.ensures
          c.left_in_turn.ensures.in_turn);
    }

pub returns-clause-follows : goal.returns-clause-follows
returns-clause-follows g c =
    let f = g.P.Rules in
    let Struck = StruckBy f.puzzle g.P.Steps.own in
    let square = c.args.grid.now in
    let cut = pruned_cut f (FailsBy Struck c.args.grade square) square c.args.order.now c.left_in_turn.result (laws_of g.met.P.Rules)
    (returns-clause-pruned g c) in
    square_follows f Struck (steps g) c.args.grade square c.left_in_turn.result cut.valid cut.solves c.left_in_turn.ensures.passes

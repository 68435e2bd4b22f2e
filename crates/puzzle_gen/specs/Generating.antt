-- The outcome of generating from parameters and a seed: a puzzle, or a refusal.
use Rattle.std.specs.Prelude.{◌≡◌, ℕ, ◌<◌, ◌≤◌, Result, Ok, Err, None, IsSome}
use Rattle.trail_solver.specs.declared.rules.Rules.{Ghosts}
use Rattle.game_texts.specs.declared.params.Params.{Params}
use Rattle.puzzle_gen.specs.declared.gen_fault.GenFault.{GenFault}
use Rattle.puzzle_gen.specs.declared.gen_fault.GenFault.TheVariants.{SizeTooLarge, Graded}
use Rattle.puzzle_gen.specs.SeededSquares.{square_of, trial_order}
use Rattle.puzzle_gen.specs.Pruning.{IsPruned}

-- a puzzle only of a size up to 6 and with no letter: the pruned puzzle of the seed's square and order of trial
abbrev pub Generates : {P : Type 0} → Ghosts P → Params → ℕ → Result P GenFault → Type 0
Generates f params seed (Ok p) =
    (params.size ≤ 6) × (params.letter ≡ None)
    × IsPruned f (square_of params.size seed) (trial_order (f.items_of params.size) params.size seed) p
Generates f params seed (Err SizeTooLarge) = 6 < params.size
Generates f params seed (Err Graded) = (params.size ≤ 6) × IsSome params.letter

-- Dead ends: where the steps of a contradiction end.
use Rattle.std.specs.Prelude.{◌≡◌, ◌<◌, ◌≤◌, ◌*◌, ◌-◌, ℕ, List, length, Some, slice_get}
use Rattle.latin_board.specs.Lines.{line_cell}
use Rattle.trail_solver.specs.Candidates.{CandidatesValue}
use Rattle.line_steps.specs.Left.{IsLeft}
use Rattle.line_steps.specs.Chains.{left_by}
use Rattle.line_steps.specs.declared.reason.Reason.TheVariants.{Place}
use Rattle.step_chains.specs.ChainValues.{steps_of}
use Rattle.step_chains.specs.declared.chain.Step.{Step}
use Rattle.step_texts.specs.declared.dead_ends.DeadEnd.{DeadEnd}
use Rattle.step_texts.specs.declared.dead_ends.DeadEnd.TheVariants.{Square, Line}

-- the number is one of the size's, and it is left in no square of this row or column
pub record HasNoSquare (c : CandidatesValue) (line value : ℕ) : Type 0 where
  pub line_is : line < 2 * c.size
  pub low : 1 ≤ value
  pub high : value ≤ c.size
  pub none : (k : ℕ) → k < c.size → IsLeft c (line_cell c.size line k) value → ⊥

-- the last step strikes by the only place of this number in this row or column
abbrev pub IsLastPlace : List Step → ℕ → ℕ → Type 0
IsLastPlace steps line value =
    (step : Step) × (index : ℕ) × (slice_get steps (length steps - 1) ≡ Some step)
    × (step.reason ≡ Place line index value)

-- where steps from some candidates end that leave a square nothing: in the row or column of the last one, if that is by
-- the place of a number that has no square left there, and otherwise in the square
abbrev pub IsDeadEnd : CandidatesValue → List Step → ℕ → DeadEnd → Type 0
IsDeadEnd c steps emptied (Square cell) =
    (cell ≡ emptied)
    × ((line value : ℕ) → IsLastPlace steps line value → HasNoSquare (left_by c (steps_of steps)) line value → ⊥)
IsDeadEnd c steps emptied (Line line value) =
    IsLastPlace steps line value × HasNoSquare (left_by c (steps_of steps)) line value

-- The meaning of a chain that refutes the numbers of a grid.
use Rattle.std.specs.Prelude.{◌≡◌, ℕ, List, ◌∷◌, ◌++◌}
use Rattle.trail_solver.specs.Candidates.{CandidatesValue}
use Rattle.line_steps.specs.Chains.{StepValue}
use Rattle.line_steps.specs.declared.grade.Grade.{Grade}
use Rattle.step_chains.specs.ChainValues.{LeavesNothing}
use Rattle.line_steps.specs.Reasons.{Striking}

-- from these candidates the steps leave a square nothing, and none of them can be left out
pub record Refutes (Struck : Striking) (grade : Grade) (c : CandidatesValue) (steps : List StepValue) (cell : ℕ)
    : Type 0 where
  pub leaves : LeavesNothing Struck grade c steps cell
  pub tight : (front back : List StepValue) (step : StepValue) → steps ≡ front ++ step ∷ back
      → LeavesNothing Struck grade c (front ++ back) cell → ⊥

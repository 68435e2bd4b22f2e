-- The candidates that a grade leaves.
use Rattle.std.specs.Prelude.{◌≡◌, ℕ, true, false, List}
use Rattle.trail_solver.specs.Pairs.{IsPair}
use Rattle.trail_solver.specs.Candidates.{CandidatesValue, may_be}
use Rattle.line_steps.specs.Left.{AreAlike}
use Rattle.trail_solver.specs.Puzzles.{Puzzle}
use Rattle.line_steps.specs.Grades.{has_reason, is_of_clues}
use Rattle.line_steps.specs.Chains.{StepValue, IsChain, AreOfGrade, left_by}
use Rattle.line_steps.specs.declared.reason.Reason.{Reason}
use Rattle.line_steps.specs.declared.grade.Grade.{Grade}
use Rattle.line_steps.specs.Reasons.{IsByGiven, Striking}

-- no reason of the grade strikes anything more
abbrev pub IsSettled : Striking → Grade → CandidatesValue → Type 0
IsSettled Struck grade c =
    (reason : Reason) (cell value : ℕ) → has_reason grade reason ≡ true → IsPair c.size cell value
    → Struck c reason cell value
    → may_be c cell value ≡ false

-- the grade leaves the second of the first: a chain of its steps leads there, and nothing more is struck
pub record IsClosure (Struck : Striking) (grade : Grade) (c d : CandidatesValue) : Type 0 where
  pub steps : List StepValue
  pub chain : IsChain Struck c steps
  pub allowed : AreOfGrade grade steps
  pub size : d.size ≡ c.size
  pub left : AreAlike (left_by c steps) d
  pub settled : IsSettled Struck grade d

-- no clue and no sign strikes anything that is left, as the grade looks at them
abbrev pub AreCluesSettled : Striking → Grade → CandidatesValue → Type 0
AreCluesSettled Struck grade c =
    (reason : Reason) (cell value : ℕ) → is_of_clues reason ≡ true → has_reason grade reason ≡ true
    → IsPair c.size cell value
    → Struck c reason cell value → may_be c cell value ≡ false

-- the given of the square strikes nothing that is left
abbrev pub IsGivenQuiet : Puzzle → ℕ → CandidatesValue → Type 0
IsGivenQuiet p at c =
    (cell value : ℕ) → IsPair c.size cell value → IsByGiven p at cell value → may_be c cell value ≡ false

-- no given strikes anything that is left
abbrev pub AreGivensSettled : Puzzle → CandidatesValue → Type 0
AreGivensSettled p c = (at : ℕ) → IsGivenQuiet p at c

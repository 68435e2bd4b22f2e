-- Steps, chains of them, and what they leave.
use Rattle.std.specs.Prelude.{◌≡◌, ℕ, true, List, [], ◌∷◌}
use Rattle.trail_solver.specs.Pairs.{IsPair, has_pair}
use Rattle.trail_solver.specs.Candidates.{CandidatesValue}
use Rattle.line_steps.specs.Left.{without}
use Rattle.line_steps.specs.Grades.{has_reason}
use Rattle.line_steps.specs.declared.reason.Reason.{Reason}
use Rattle.line_steps.specs.declared.grade.Grade.{Grade}
use Rattle.line_steps.specs.Reasons.{Striking}

-- a reason, and the pairs that it strikes
pub record StepValue : Type 0 where
  pub reason : Reason
  pub strikes : List (ℕ × ℕ)

-- each of the step's pairs is one of the size's, and the reason strikes it
abbrev pub IsStep : Striking → CandidatesValue → StepValue → Type 0
IsStep Struck c step =
    (cell value : ℕ) → has_pair step.strikes cell value ≡ true
    → IsPair c.size cell value × Struck c step.reason cell value

-- each step strikes its pairs by what the steps before it leave
abbrev pub IsChain : Striking → CandidatesValue → List StepValue → Type 0
IsChain Struck c [] = Unit {0}
IsChain Struck c (step ∷ steps) = IsStep Struck c step × IsChain Struck (without c step.strikes) steps

-- what a chain leaves
abbrev pub left_by : CandidatesValue → List StepValue → CandidatesValue
left_by c [] = c
left_by c (step ∷ steps) = left_by (without c step.strikes) steps

-- each step is of a kind that the grade has
abbrev pub AreOfGrade : Grade → List StepValue → Type 0
AreOfGrade grade [] = Unit {0}
AreOfGrade grade (step ∷ steps) = (has_reason grade step.reason ≡ true) × AreOfGrade grade steps

-- a chain of the grade's steps leads from the first candidates to the second
pub record LeadsTo (Struck : Striking) (grade : Grade) (c d : CandidatesValue) : Type 0 where
  pub steps : List StepValue
  pub chain : IsChain Struck c steps
  pub allowed : AreOfGrade grade steps
  pub is : d ≡ left_by c steps

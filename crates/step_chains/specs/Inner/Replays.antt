-- Chains of a grade, and candidates that stand for what they leave.
use Rattle.std.specs.Prelude.{◌≡◌, true, List, [], ◌∷◌}
use Rattle.trail_solver.specs.Candidates.{CandidatesValue}
use Rattle.line_steps.specs.Left.{AreAlike, without}
use Rattle.line_steps.specs.Grades.{has_reason}
use Rattle.line_steps.specs.Chains.{StepValue, IsStep, IsChain, AreOfGrade, left_by}
use Rattle.line_steps.specs.declared.grade.Grade.{Grade}
use Rattle.line_steps.specs.Reasons.{Striking}
use Rattle.step_chains.specs.ChainValues.{HasSome, IsLiveStep}

-- the step is one by the candidates, and of a kind that the grade has
abbrev pub IsGradeStep : Striking → Grade → CandidatesValue → StepValue → Type 0
IsGradeStep Struck grade c step = (has_reason grade step.reason ≡ true) × IsStep Struck c step

-- the steps are a chain, each of a kind that the grade has
abbrev pub IsGradeChain : Striking → Grade → CandidatesValue → List StepValue → Type 0
IsGradeChain Struck grade c steps = IsChain Struck c steps × AreOfGrade grade steps

-- the steps are a chain of the grade's, and leave the same as is left of the second candidates
pub record Leads (Struck : Striking) (grade : Grade) (c : CandidatesValue) (steps : List StepValue)
    (d : CandidatesValue) : Type 0 where
  pub chain : IsChain Struck c steps
  pub allowed : AreOfGrade grade steps
  pub size : d.size ≡ c.size
  pub alike : AreAlike (left_by c steps) d

-- something is left of each square, and the step strikes only what is left
abbrev pub IsTimelyStep : CandidatesValue → StepValue → Type 0
IsTimelyStep c step = HasSome c × IsLiveStep c step

-- each step is timely once those before it have struck
abbrev pub AreTimely : CandidatesValue → List StepValue → Type 0
AreTimely c [] = Unit {0}
AreTimely c (step ∷ steps) = IsTimelyStep c step × AreTimely (without c step.strikes) steps

-- Steps that strike something more, and reasons that strike nothing more.
use Rattle.std.specs.Prelude.{◌≡◌, ℕ, ◌<◌, true, false, Option, IfSome}
use Rattle.number_sets.specs.Sets.{has_number}
use Rattle.trail_solver.specs.Pairs.{IsPair}
use Rattle.trail_solver.specs.Candidates.{CandidatesValue, AreCandidates, may_be}
use Rattle.line_steps.specs.Grades.{has_reason}
use Rattle.line_steps.specs.declared.reason.Reason.{Reason}
use Rattle.line_steps.specs.declared.grade.Grade.{Grade}
use Rattle.step_chains.specs.declared.chain.Step.{Step}
use Rattle.step_chains.specs.ChainValues.{step_value}
use Rattle.step_chains.specs.Inner.Replays.{IsGradeStep}
use Rattle.step_chains.specs.Inner.Listed.{IsFoundAt, place_count}
use Rattle.step_chains.specs.declared.reasons.Part.{Part}
use Rattle.line_steps.specs.Reasons.{Striking}

-- the step is one of the grade's, and strikes some values that are left
pub record IsNew (Struck : Striking) (grade : Grade) (c : CandidatesValue) (s : Step) : Type 0 where
  pub step : IsGradeStep Struck grade c (step_value s)
  pub left : AreCandidates c s.cell s.values
  pub some : (value : ℕ) × (has_number s.values value ≡ true)

-- if the grade has the reason, it strikes nothing more in the square
abbrev pub IsIdleIn : Striking → Grade → CandidatesValue → Reason → ℕ → Type 0
IsIdleIn Struck grade c reason cell =
    (value : ℕ) → has_reason grade reason ≡ true → IsPair c.size cell value → Struck c reason cell value
    → may_be c cell value ≡ false

-- if the grade has the reason, it strikes nothing more in any square
abbrev pub IsIdle : Striking → Grade → CandidatesValue → Reason → Type 0
IsIdle Struck grade c reason = (cell : ℕ) → IsIdleIn Struck grade c reason cell

-- the reason at a place of a part of the list, if there is one, strikes nothing more
abbrev pub IsIdleAt : Striking → Grade → CandidatesValue → Part → ℕ → Type 0
IsIdleAt Struck grade c part place =
    (found : Option Reason) × IsFoundAt c part place found × IfSome found (IsIdle Struck grade c)

-- no reason at any place of the part strikes anything more
abbrev pub AreIdleIn : Striking → Grade → CandidatesValue → Part → Type 0
AreIdleIn Struck grade c part = (place : ℕ) → place < place_count c.size part → IsIdleAt Struck grade c part place

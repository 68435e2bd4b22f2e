-- Candidates that are settled: whatever the order of steps, a grade leaves the same.
use Rattle.std.proofs.Common.{◌≡◌, true, List, [], ◌∷◌}
use Rattle.std.proofs.lemmas.Bool.{both_ways, false_from_ne_true}
use Rattle.trail_solver.specs.Pairs.{has_pair}
use Rattle.trail_solver.specs.Candidates.{CandidatesValue, may_be}
use Rattle.line_steps.specs.Left.{IsFewer, AreAlike, without}
use Rattle.line_steps.proofs.Takes.{still_left}
use Rattle.line_steps.specs.Grades.{has_reason}
use Rattle.line_steps.specs.Chains.{StepValue, IsStep, IsChain, left_by, AreOfGrade}
use Rattle.line_steps.specs.Settled.{IsSettled, IsClosure}
use Rattle.line_steps.specs.declared.grade.Grade.{Grade}
use Rattle.line_steps.specs.Reasons.{Striking}
use Rattle.line_steps.proofs.Chains.{IsAntitone, left_fewer}

-- a step of the grade strikes nothing that is left where the grade is settled
pub step_settled : (Struck : Striking) → IsAntitone Struck → (grade : Grade) (c d : CandidatesValue) (step : StepValue)
    → has_reason grade step.reason ≡ true → IsStep Struck c step → IsFewer c d → IsSettled Struck grade d → IsFewer (without c step.strikes) d
step_settled Struck less grade c d step allowed h fewer settled = λ cell value left.
    still_left c step.strikes cell value (fewer cell value left)
    (false_from_ne_true (has_pair step.strikes cell value) (λ has.
    both_ways (may_be d cell value)
    (settled step.reason cell value allowed left.pair (less c d step.reason cell value fewer (h cell value has).1)) left.may))

-- no chain of the grade strikes anything that is left where it is settled
pub chain_settled : (Struck : Striking) → IsAntitone Struck → (grade : Grade) (c d : CandidatesValue) (steps : List StepValue)
    → AreOfGrade grade steps → IsChain Struck c steps → IsFewer c d → IsSettled Struck grade d → IsFewer (left_by c steps) d
chain_settled Struck less grade c d [] allowed h fewer settled = fewer
chain_settled Struck less grade c d (step ∷ steps) allowed h fewer settled =
    chain_settled Struck less grade (without c step.strikes) d steps allowed.1 h.1
    (step_settled Struck less grade c d step allowed.0 h.0 fewer settled) settled

-- a pair that a grade leaves is left of the start
pub closure_fewer : (Struck : Striking) (grade : Grade) (c d : CandidatesValue) → IsClosure Struck grade c d → IsFewer c d
closure_fewer Struck grade c d h = λ cell value left. left_fewer c h.steps cell value (h.left.0 cell value left)

-- a pair that a grade leaves by one chain of its steps is left by each other, too
closure_within : (Struck : Striking) → IsAntitone Struck → (grade : Grade) (c d e : CandidatesValue)
    → IsClosure Struck grade c d → IsClosure Struck grade c e → IsFewer d e
closure_within Struck less grade c d e h k = λ cell value left.
    h.left.1 cell value
    (chain_settled Struck less grade c e h.steps h.allowed h.chain (closure_fewer Struck grade c e k) k.settled cell value left)

-- in whatever order the steps are taken, a grade leaves the same
pub closures_alike : (Struck : Striking) → IsAntitone Struck → (grade : Grade) (c d e : CandidatesValue)
    → IsClosure Struck grade c d → IsClosure Struck grade c e → AreAlike d e
closures_alike Struck less grade c d e h k = (closure_within Struck less grade c d e h k, closure_within Struck less grade c e d k h)

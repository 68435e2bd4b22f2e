-- Numbers that are shown: also in fewer candidates, and where a grade is settled no others are shown.
use Rattle.std.proofs.lemmas.Bool.Decides.{nat_tests}
use Rattle.std.proofs.Common.{◌≡◌, ℕ, List, sym, ◌∙◌, arith}
use Rattle.trail_solver.specs.Candidates.{CandidatesValue}
use Rattle.line_steps.specs.Left.{IsFewer, HasNoOtherPlace}
use Rattle.named_steps.specs.Chains.{IsShown, Shows}
use Rattle.line_steps.specs.Chains.{StepValue, left_by}
use Rattle.line_steps.specs.Settled.{IsClosure}
use Rattle.named_steps.proofs.Antitone.{chain_settled, closure_fewer}
use Rattle.line_steps.proofs.Chains.{IsAntitone, left_size}
use Rattle.line_steps.specs.declared.grade.Grade.{Grade}
use Rattle.named_steps.specs.declared.goal.Goal.{Goal}
use Rattle.line_steps.specs.Reasons.{Striking}

-- a value without another place in a line has none in fewer candidates
no_place_less : (c d : CandidatesValue) (line value index : ℕ) → c.size ≡ d.size → IsFewer c d → HasNoOtherPlace c line value index
    → HasNoOtherPlace d line value index
no_place_less c d line value index size fewer h = grind arith

-- a goal that candidates show is shown by fewer
pub shown_less : (c d : CandidatesValue) (goal : Goal) → c.size ≡ d.size → IsFewer c d → IsShown c goal → IsShown d goal
shown_less c d goal size fewer h = grind (arith, nat_tests, no_place_less)

-- a goal that a chain shows is shown by the closure
pub closure_shows : (Struck : Striking) → IsAntitone Struck → (grade : Grade) (c d : CandidatesValue)
    (steps : List StepValue) (goal : Goal) → IsClosure Struck grade c d → Shows Struck grade c steps goal → IsShown d goal
closure_shows Struck less grade c d steps goal h s =
    shown_less (left_by c steps) d goal (left_size c steps ∙ sym h.size)
    (chain_settled Struck less grade c d steps s.allowed s.chain (closure_fewer Struck grade c d h) h.settled) s.shown

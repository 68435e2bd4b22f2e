-- The answer to a call of a session, memory left aside, is never OutOfMemory.
use Rattle.std.proofs.lemmas.Bool.Decides.{nat_tests}
use Rattle.std.proofs.Common.{◌≢◌, Err, refl, arith}
use Rattle.trail_solver.specs.Puzzles.{Puzzle}
use Rattle.play_midend.specs.declared.fault.PlayFault.{PlayFault}
use Rattle.play_midend.specs.declared.fault.PlayFault.TheVariants.{OutOfMemory}
use Rattle.play_midend.specs.Laws.{Call, CallGives}
use Rattle.play_midend.specs.Histories.{History, IsRefusal}

-- what a call gives, memory left aside, is never OutOfMemory
pub call_not_for_memory : {P : Type 0} (p : Puzzle) (h : History P) (call : Call) → CallGives p h call (Err OutOfMemory) → ⊥
call_not_for_memory p h call is = grind (arith, nat_tests)

-- a fault other than OutOfMemory is a refusal of a call that gives this fault
pub exact_refusal : (A : Type 0) (fault : PlayFault) → fault ≢ OutOfMemory → IsRefusal {A = A} (Err fault) fault
exact_refusal A OutOfMemory n = absurd (n refl)
exact_refusal A fault n = refl

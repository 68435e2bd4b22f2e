-- OutOfMemory in place of the session that an ID begins.
use Rattle.std.proofs.Common.{◌≡◌, Result, Ok, Err, IfErr, inr}
use Rattle.play_midend.specs.Histories.{History}
use Rattle.line_replies.specs.declared.start.start_fault.StartFault.{StartFault}
use Rattle.line_replies.specs.declared.start.start_fault.StartFault.TheVariants.{OutOfMemory}
use Rattle.line_replies.specs.NewSessions.{IsStartRefusal}

-- where a first session would come, OutOfMemory may come in its place
pub refused_for_memory : {P : Type 0} (Comes : Result (History P) StartFault → Type 0) (first : History P)
    (result : Result (History P) StartFault) → Comes (Ok first) → IfErr result (λ fault. fault ≡ OutOfMemory)
    → IfErr result (IsStartRefusal Comes)
refused_for_memory Comes first (Ok session) comes memory = tt
refused_for_memory Comes first (Err fault) comes memory = inr (memory, (first, comes))

-- Why a line is refused, by kind and by name.
use Rattle.std.specs.Prelude.{ℕ, List, codes}
use Rattle.play_midend.specs.declared.fault.PlayFault.{PlayFault}
use Rattle.play_midend.specs.declared.fault.PlayFault.TheVariants.{OutOfMemory as PlayOutOfMemory}
use Rattle.play_midend.specs.Faults.{play_fault_name}
use Rattle.line_replies.specs.declared.start.start_fault.StartFault.{StartFault}
use Rattle.line_replies.specs.declared.start.start_fault.StartFault.TheVariants.{OutOfMemory as StartOutOfMemory}
use Rattle.line_replies.specs.LineFault.{line_fault_name}
use Rattle.line_replies.specs.StartFault.{start_fault_name}
use Rattle.line_replies.specs.declared.reply.refusal.Refusal.{Refusal}
use Rattle.line_replies.specs.declared.reply.refusal.Refusal.TheVariants.{Line, Start, Play, Memory}

-- the name that a refusal is told by
abbrev pub refusal_name : Refusal → List ℕ
refusal_name (Line fault) = line_fault_name fault
refusal_name (Start fault) = start_fault_name fault
refusal_name (Play fault) = play_fault_name fault
refusal_name Memory = codes "OutOfMemory"

-- the refusal for a fault of an ID, or of a call: OutOfMemory is Memory
abbrev pub start_refusal : StartFault → Refusal
start_refusal StartOutOfMemory = Memory
start_refusal fault = Start fault

-- the refusal of a line, by the fault of the move
abbrev pub play_refusal : PlayFault → Refusal
play_refusal PlayOutOfMemory = Memory
play_refusal fault = Play fault

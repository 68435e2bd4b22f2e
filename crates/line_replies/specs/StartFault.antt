-- The numbers and the names of the refusals of a first session, and what the program makes of each.
use Rattle.std.specs.Prelude.{ℕ, List, [], ◌++◌, codes}
use Rattle.std.specs.Fmt.{decimal}
use Rattle.game_texts.specs.IdFaults.{id_fault_name}
use Rattle.puzzle_gen.specs.GenFaults.{gen_fault_name}
use Rattle.play_save.specs.declared.fault.LoadFault.TheVariants.{BadState}
use Rattle.play_save.specs.Faults.{load_fault_name}
use Rattle.line_replies.specs.declared.start.start_fault.StartFault.{StartFault}
use Rattle.line_replies.specs.declared.start.start_fault.StartFault.TheVariants.{Id, Gen, Load, OutOfMemory}

-- the number of a fault
abbrev pub start_fault_number : StartFault → ℕ
start_fault_number (Id fault) = 1
start_fault_number (Gen fault) = 2
start_fault_number (Load fault) = 3
start_fault_number OutOfMemory = 4

-- the name of a fault: that of what it comes from
abbrev pub start_fault_name : StartFault → List ℕ
start_fault_name (Id fault) = id_fault_name fault
start_fault_name (Gen fault) = gen_fault_name fault
start_fault_name (Load fault) = load_fault_name fault
start_fault_name OutOfMemory = codes "OutOfMemory"

-- the status that the program ends with
abbrev pub start_fault_status : StartFault → ℕ
start_fault_status (Id fault) = 3
start_fault_status (Gen fault) = 3
start_fault_status (Load fault) = 3
start_fault_status OutOfMemory = 1

-- the index of the state record that is meant, where one is
abbrev pub state_index_text : StartFault → List ℕ
state_index_text (Load (BadState index)) = codes " " ++ decimal index
state_index_text _ = []

-- the line on standard error, without its LF
abbrev pub start_fault_line : StartFault → List ℕ
start_fault_line OutOfMemory = codes "out of memory"
start_fault_line fault = codes "refused: " ++ start_fault_name fault ++ state_index_text fault

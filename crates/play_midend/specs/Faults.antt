-- The refusals of a session, by number and by name.
use Rattle.std.specs.Prelude.{ℕ, List, codes}
use Rattle.play_midend.specs.declared.fault.PlayFault.{PlayFault}
use Rattle.play_midend.specs.declared.fault.PlayFault.TheVariants.{BadMove, Unsupported, OffGrid, OffRange, GivenSquare}
use Rattle.play_midend.specs.declared.fault.PlayFault.TheVariants.{FilledSquare, BadSolution, HistoryFull, OutOfMemory}
use Rattle.play_midend.specs.declared.fault.PlayFault.TheVariants.{NothingToUndo, NothingToRedo, NothingToRestart, NoSolution, SeveralSolutions}

-- the number of a fault
abbrev pub play_fault_number : PlayFault → ℕ
play_fault_number BadMove = 1
play_fault_number Unsupported = 2
play_fault_number OffGrid = 3
play_fault_number OffRange = 4
play_fault_number GivenSquare = 5
play_fault_number FilledSquare = 6
play_fault_number BadSolution = 7
play_fault_number HistoryFull = 8
play_fault_number OutOfMemory = 9
play_fault_number NothingToUndo = 10
play_fault_number NothingToRedo = 11
play_fault_number NothingToRestart = 12
play_fault_number NoSolution = 13
play_fault_number SeveralSolutions = 14

-- the name of a fault
abbrev pub play_fault_name : PlayFault → List ℕ
play_fault_name BadMove = codes "BadMove"
play_fault_name Unsupported = codes "Unsupported"
play_fault_name OffGrid = codes "OffGrid"
play_fault_name OffRange = codes "OffRange"
play_fault_name GivenSquare = codes "GivenSquare"
play_fault_name FilledSquare = codes "FilledSquare"
play_fault_name BadSolution = codes "BadSolution"
play_fault_name HistoryFull = codes "HistoryFull"
play_fault_name OutOfMemory = codes "OutOfMemory"
play_fault_name NothingToUndo = codes "NothingToUndo"
play_fault_name NothingToRedo = codes "NothingToRedo"
play_fault_name NothingToRestart = codes "NothingToRestart"
play_fault_name NoSolution = codes "NoSolution"
play_fault_name SeveralSolutions = codes "SeveralSolutions"

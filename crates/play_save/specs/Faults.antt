-- The refusals of a save file, by number and by name.
use Rattle.std.specs.Prelude.{ℕ, List, codes}
use Rattle.play_save.specs.declared.fault.LoadFault.{LoadFault}
use Rattle.play_save.specs.declared.fault.LoadFault.TheVariants.{NotASave, Malformed, Version, WrongGame, Repeated}
use Rattle.play_save.specs.declared.fault.LoadFault.TheVariants.{EarlyState, Unsupported, BadParams, BadDesc, BadCount}
use Rattle.play_save.specs.declared.fault.LoadFault.TheVariants.{Missing, BadState, TooLarge, OutOfMemory}

-- the number of a fault
abbrev pub load_fault_number : LoadFault → ℕ
load_fault_number NotASave = 1
load_fault_number Malformed = 2
load_fault_number Version = 3
load_fault_number WrongGame = 4
load_fault_number Repeated = 5
load_fault_number EarlyState = 6
load_fault_number Unsupported = 7
load_fault_number BadParams = 8
load_fault_number BadDesc = 9
load_fault_number BadCount = 10
load_fault_number Missing = 11
load_fault_number (BadState i) = 12
load_fault_number TooLarge = 13
load_fault_number OutOfMemory = 14

-- the name of a fault
abbrev pub load_fault_name : LoadFault → List ℕ
load_fault_name NotASave = codes "NotASave"
load_fault_name Malformed = codes "Malformed"
load_fault_name Version = codes "Version"
load_fault_name WrongGame = codes "WrongGame"
load_fault_name Repeated = codes "Repeated"
load_fault_name EarlyState = codes "EarlyState"
load_fault_name Unsupported = codes "Unsupported"
load_fault_name BadParams = codes "BadParams"
load_fault_name BadDesc = codes "BadDesc"
load_fault_name BadCount = codes "BadCount"
load_fault_name Missing = codes "Missing"
load_fault_name (BadState i) = codes "BadState"
load_fault_name TooLarge = codes "TooLarge"
load_fault_name OutOfMemory = codes "OutOfMemory"

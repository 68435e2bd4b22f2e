-- The numbers, the names and the statuses of what a command line gives in place of a game.
use Rattle.std.specs.Prelude.{ℕ, List, codes}
use Rattle.puzzle_cli.specs.declared.start.command_fault.CommandFault.{CommandFault}
use Rattle.puzzle_cli.specs.declared.start.command_fault.CommandFault.TheVariants.{BadWords, HelpAsked, OutOfMemory}

-- the number of a fault
abbrev pub command_fault_number : CommandFault → ℕ
command_fault_number (BadWords text) = 1
command_fault_number (HelpAsked text) = 2
command_fault_number OutOfMemory = 3

-- the name of a fault
abbrev pub command_fault_name : CommandFault → List ℕ
command_fault_name (BadWords text) = codes "BadWords"
command_fault_name (HelpAsked text) = codes "HelpAsked"
command_fault_name OutOfMemory = codes "OutOfMemory"

-- the status that the program ends with
abbrev pub command_fault_status : CommandFault → ℕ
command_fault_status (BadWords text) = 2
command_fault_status (HelpAsked text) = 0
command_fault_status OutOfMemory = 1

-- The numbers and the names of the faults of a line.
use Rattle.std.specs.Prelude.{ℕ, List, codes}
use Rattle.line_replies.specs.declared.command.line_fault.LineFault.{LineFault}
use Rattle.line_replies.specs.declared.command.line_fault.LineFault.TheVariants.{LongLine, BadCommand, NoGame}

-- the number of a fault
abbrev pub line_fault_number : LineFault → ℕ
line_fault_number LongLine = 1
line_fault_number BadCommand = 2
line_fault_number NoGame = 3

-- the name of a fault
abbrev pub line_fault_name : LineFault → List ℕ
line_fault_name LongLine = codes "LongLine"
line_fault_name BadCommand = codes "BadCommand"
line_fault_name NoGame = codes "NoGame"

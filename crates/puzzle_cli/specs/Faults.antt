-- The statuses of the program, and its lines on standard error.
use Rattle.std.specs.Prelude.{ℕ, List, [], codes, Option, None, option_map, string_bytes}
use Rattle.puzzle_cli.specs.declared.start.command_fault.CommandFault.TheVariants.{BadWords, HelpAsked, OutOfMemory as WordsOutOfMemory}
use Rattle.puzzle_cli.specs.CommandFault.{command_fault_status}
use Rattle.line_replies.specs.StartFault.{start_fault_status, start_fault_line}
use Rattle.puzzle_cli.specs.declared.fault.Fault.{Fault}
use Rattle.puzzle_cli.specs.declared.fault.Fault.TheVariants.{Words, Start, LoadFile, SaveFile, Input, Output, OutOfMemory}

-- the status that the program ends with
abbrev pub fault_status : Fault → ℕ
fault_status (Words fault) = command_fault_status fault
fault_status (Start fault) = start_fault_status fault
fault_status LoadFile = 1
fault_status (SaveFile left) = 1
fault_status Input = 1
fault_status Output = 1
fault_status OutOfMemory = 1

-- the line on standard error, without its LF: what is said of refused words, and help, are texts of their own
abbrev pub fault_line : Fault → List ℕ
fault_line (Words (BadWords text)) = []
fault_line (Words (HelpAsked text)) = []
fault_line (Words WordsOutOfMemory) = codes "out of memory"
fault_line (Start fault) = start_fault_line fault
fault_line LoadFile = codes "cannot read the file"
fault_line (SaveFile left) = codes "cannot write the file"
fault_line Input = codes "cannot read the input"
fault_line Output = codes "cannot write the output"
fault_line OutOfMemory = codes "out of memory"

-- where the save stands that couldn't be put into its file, if it stands anywhere
abbrev pub fault_left_at : Fault → Option (List ℕ)
fault_left_at (SaveFile left) = option_map string_bytes left
fault_left_at (Words fault) = None
fault_left_at (Start fault) = None
fault_left_at LoadFile = None
fault_left_at Input = None
fault_left_at Output = None
fault_left_at OutOfMemory = None

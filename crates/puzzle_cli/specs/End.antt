-- The numbers and the names of the ends of a run, and what the program makes of each.
use Rattle.std.specs.Prelude.{ℕ, List, [], codes}
use Rattle.puzzle_cli.specs.declared.run_end.End.{End}
use Rattle.puzzle_cli.specs.declared.run_end.End.TheVariants.{Finished, ReadFault, WriteFault}

-- the number of an end
abbrev pub end_number : End → ℕ
end_number Finished = 1
end_number ReadFault = 2
end_number WriteFault = 3

-- the name of an end
abbrev pub end_name : End → List ℕ
end_name Finished = codes "Finished"
end_name ReadFault = codes "ReadFault"
end_name WriteFault = codes "WriteFault"

-- the status that the program ends with
abbrev pub end_status : End → ℕ
end_status Finished = 0
end_status ReadFault = 1
end_status WriteFault = 1

-- the line on standard error, without its LF
abbrev pub end_fault_line : End → List ℕ
end_fault_line Finished = []
end_fault_line ReadFault = codes "cannot read the input"
end_fault_line WriteFault = codes "cannot write the output"

-- The number and the name of each fault of the generator.
use Rattle.std.specs.Prelude.{ℕ, List, codes}
use Rattle.puzzle_gen.specs.declared.gen_fault.GenFault.{GenFault}
use Rattle.puzzle_gen.specs.declared.gen_fault.GenFault.TheVariants.{SizeTooLarge, Graded}

-- the number of a fault
abbrev pub gen_fault_number : GenFault → ℕ
gen_fault_number SizeTooLarge = 1
gen_fault_number Graded = 2

-- the name of a fault
abbrev pub gen_fault_name : GenFault → List ℕ
gen_fault_name SizeTooLarge = codes "SizeTooLarge"
gen_fault_name Graded = codes "Graded"

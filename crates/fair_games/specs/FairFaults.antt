-- The number and the name of each fault.
use Rattle.std.specs.Prelude.{ℕ, List, codes}
use Rattle.fair_games.specs.declared.fair_fault.FairFault.{FairFault}
use Rattle.fair_games.specs.declared.fair_fault.FairFault.TheVariants.{NotOffered, NoneFound}

-- the number of a fault
abbrev pub fair_fault_number : FairFault → ℕ
fair_fault_number NotOffered = 1
fair_fault_number NoneFound = 2

-- the name of a fault
abbrev pub fair_fault_name : FairFault → List ℕ
fair_fault_name NotOffered = codes "NotOffered"
fair_fault_name NoneFound = codes "NoneFound"

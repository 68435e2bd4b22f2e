-- The faults of game IDs, parameters and descriptions: the number and the name of each, and the two of a list that has
-- too few or too many members.
use Rattle.std.specs.Prelude.{◌≢◌, ℕ, List, codes, Result, IfErr, length, Ok, Err, nat_lt, if◌then◌else◌}
use Rattle.game_texts.specs.declared.id_fault.IdFault.{IdFault}
use Rattle.game_texts.specs.declared.id_fault.IdFault.TheVariants.{BadSize, BadLetter, AdjacentMode, BadParams}
use Rattle.game_texts.specs.declared.id_fault.IdFault.TheVariants.{ForeignSeed, NoDescription, BadSeed, BadClue}
use Rattle.game_texts.specs.declared.id_fault.IdFault.TheVariants.{BadSquares, TooFew, TooMany, OffGrid, Contradiction, OutOfMemory}

-- a fault's number
abbrev pub id_fault_number : IdFault → ℕ
id_fault_number BadSize = 1
id_fault_number BadLetter = 2
id_fault_number AdjacentMode = 3
id_fault_number BadParams = 4
id_fault_number ForeignSeed = 5
id_fault_number NoDescription = 6
id_fault_number BadSeed = 7
id_fault_number BadClue = 8
id_fault_number BadSquares = 9
id_fault_number TooFew = 10
id_fault_number TooMany = 11
id_fault_number OffGrid = 12
id_fault_number Contradiction = 13
id_fault_number OutOfMemory = 14

-- a fault's name, as a program prints it
abbrev pub id_fault_name : IdFault → List ℕ
id_fault_name BadSize = codes "BadSize"
id_fault_name BadLetter = codes "BadLetter"
id_fault_name AdjacentMode = codes "AdjacentMode"
id_fault_name BadParams = codes "BadParams"
id_fault_name ForeignSeed = codes "ForeignSeed"
id_fault_name NoDescription = codes "NoDescription"
id_fault_name BadSeed = codes "BadSeed"
id_fault_name BadClue = codes "BadClue"
id_fault_name BadSquares = codes "BadSquares"
id_fault_name TooFew = codes "TooFew"
id_fault_name TooMany = codes "TooMany"
id_fault_name OffGrid = codes "OffGrid"
id_fault_name Contradiction = codes "Contradiction"
id_fault_name OutOfMemory = codes "OutOfMemory"

-- the answer is no refusal for memory
abbrev pub NotForMemory : {A : Type 0} → Result A IdFault → Type 0
NotForMemory answer = IfErr answer (λ fault. fault ≢ OutOfMemory)

-- the list if it has exactly n members, and otherwise the fault that it has too few or too many
abbrev pub exactly : {X : Type 0} → ℕ → List X → Result (List X) IdFault
exactly n xs = if nat_lt (length xs) n then Err TooFew else (if nat_lt n (length xs) then Err TooMany else Ok xs)

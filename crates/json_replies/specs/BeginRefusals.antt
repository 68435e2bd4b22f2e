-- The names of the refusals of the lines that begin a game, and of `spare` and a letter.
use Rattle.std.specs.Prelude.{ℕ, List, codes}
use Rattle.json_replies.specs.declared.begin_refusal.BeginRefusal.{BeginRefusal}
use Rattle.json_replies.specs.declared.begin_refusal.BeginRefusal.TheVariants.{NoGame, BadSize, BadLetter, BadSeed, NoneFound, OffGrid, OffRange, NoSolution, SeveralSolutions}

-- the name that a refusal is told by
abbrev pub begin_refusal_name : BeginRefusal → List ℕ
begin_refusal_name NoGame = codes "NoGame"
begin_refusal_name BadSize = codes "BadSize"
begin_refusal_name BadLetter = codes "BadLetter"
begin_refusal_name BadSeed = codes "BadSeed"
begin_refusal_name NoneFound = codes "NoneFound"
begin_refusal_name OffGrid = codes "OffGrid"
begin_refusal_name OffRange = codes "OffRange"
begin_refusal_name NoSolution = codes "NoSolution"
begin_refusal_name SeveralSolutions = codes "SeveralSolutions"

-- No letter of Unequal ends the parameters of a game ID.
use Rattle.std.proofs.Common.{arith, codes}
use Rattle.std.proofs.lemmas.Bool.Decides.{nat_tests}
use Rattle.game_texts.specs.GameIds.{LacksSeparators}

-- the letters `t`, `e`, `k`, `x` and `r` are none that separates parts of an ID
pub unequal_letters_lack : LacksSeparators (codes "tekxr")
unequal_letters_lack = grind (arith, nat_tests)

-- No letter of Towers ends the parameters of a game ID.
use Rattle.std.proofs.Common.{◌≡◌, codes, false, refl}
use Rattle.std.proofs.lemmas.List.Elements.{All-from_recursion}
use Rattle.game_texts.specs.GameIds.{is_separator, LacksSeparators}

-- the letters `e`, `h`, `x` and `u` separate nothing in a game ID
pub towers_letters_lack : LacksSeparators (codes "ehxu")
towers_letters_lack =
    All-from_recursion (λ letter. is_separator letter ≡ false) (codes "ehxu") (refl, (refl, (refl, (refl, tt))))

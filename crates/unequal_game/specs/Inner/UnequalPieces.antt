-- The results of the steps of reading pieces.
use Rattle.std.specs.Prelude.{Bool, false, ◌≡◌, ◌≢◌, ◌⊎◌, ◌++◌, ℕ, ◌&&◌, List, [], ◌∷◌, map}
use Rattle.std.specs.Borrow.{Bor}
use Rattle.std.specs.Option.{option_map_or}
use Rattle.unequal_game.specs.declared.unequal.direction.Direction.{Direction}
use Rattle.unequal_game.specs.Unequal.{neighbour}
use Rattle.unequal_game.specs.UnequalText.{says_greater}
use Rattle.byte_text.specs.Bytes.{comma}

-- the texts that references point to
abbrev pub texts_of : List (Bor (List ℕ)) → List (List ℕ)
texts_of pieces = map (λ p. p.now) pieces

-- the rest is the text without one comma at its end, where there is one
abbrev pub IsWithoutLastComma : List ℕ → List ℕ → Type 0
IsWithoutLastComma text rest =
    (text ≡ rest ++ comma ∷ []) ⊎ ((text ≡ rest) × ((front : List ℕ) → text ≢ front ++ comma ∷ []))

-- the letters of a square and of its neighbour in a direction each say that their square is the greater one
abbrev pub contradicts_towards : ℕ → List (List ℕ) → Direction → ℕ → Bool
contradicts_towards w pieces d cell =
    option_map_or (λ other. says_greater w pieces cell other && says_greater w pieces other cell)
    (neighbour w cell d) false

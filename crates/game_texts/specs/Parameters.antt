-- Parameters of a game: their text, and reading it.
use Rattle.std.specs.Prelude.{◌≡◌, ℕ, ◌+◌, ◌≤◌, List, [], ◌∷◌, Contains, Option, Some, None, IfSome, ◌-◌, Bool, ◌==◌}
use Rattle.std.specs.Prelude.{◌&&◌, not, nat_le, codes, bytes_eq, if◌then◌else◌, Result, Ok, Err}
use Rattle.game_texts.specs.declared.params.Params.{Params}
use Rattle.std.specs.List.{list_any}
use Rattle.byte_text.specs.Decimals.{begins_digit}
use Rattle.game_texts.specs.declared.id_fault.IdFault.{IdFault}
use Rattle.game_texts.specs.declared.id_fault.IdFault.TheVariants.{BadSize, BadLetter, AdjacentMode, BadParams}
use Rattle.byte_text.specs.Bytes.{digit_zero, letter_a, letter_d}

-- parameters of a game with these letters
pub record IsParams (letters : List ℕ) (p : Params) : Type 0 where
  pub smallest : 3 ≤ p.size
  pub largest : p.size ≤ 9
  pub letter : IfSome p.letter (λ letter. Contains letters letter)

-- what stands after the size: `d` and the letter, where there is one
abbrev pub letter_part : Option ℕ → List ℕ
letter_part None = []
letter_part (Some letter) = letter_d ∷ letter ∷ []

-- the text that is written of parameters
abbrev pub params_text : Params → List ℕ
params_text p = (digit_zero + p.size) ∷ letter_part p.letter

-- the text says the parameters
pub record IsParamText (letters : List ℕ) (p : Params) (text : List ℕ) : Type 0 where
  pub params : IsParams letters p
  pub text_is : text ≡ params_text p

-- these parameters, where nothing stands after them
abbrev pub if_no_more : Params → List ℕ → Result Params IdFault
if_no_more p [] = Ok p
if_no_more p (b ∷ bs) = Err BadParams

-- the parameters of a size by what stands after the `d`
abbrev pub letter_at : List ℕ → ℕ → List ℕ → Result Params IdFault
letter_at letters w [] = Err BadLetter
letter_at letters w (letter ∷ bs) =
    if list_any (λ l. l == letter) letters then if_no_more (record { size = w; letter = Some letter }) bs
    else Err BadLetter

-- of the collection's games Unequal alone has an adjacent mode
abbrev pub has_adjacent_mode : List ℕ → Bool
has_adjacent_mode title = bytes_eq title (codes "Unequal")

-- the parameters of a size by what stands after it
abbrev pub behind_size : List ℕ → Bool → ℕ → List ℕ → Result Params IdFault
behind_size letters has_adjacent w [] = Ok (record { size = w; letter = None })
behind_size letters has_adjacent w (b ∷ bs) =
    if has_adjacent && (b == letter_a) then Err AdjacentMode
    else (if b == letter_d then letter_at letters w bs else Err BadParams)

-- the byte is a digit from 3 to 9, and no other digit stands after it
abbrev pub is_size : ℕ → List ℕ → Bool
is_size b bs = nat_le (digit_zero + 3) b && (nat_le b (digit_zero + 9) && not (begins_digit bs))

-- the parameters that a text says of a game with these letters, or its first fault
unfoldable pub params_at : List ℕ → Bool → List ℕ → Result Params IdFault
params_at letters has_adjacent [] = Err BadSize
params_at letters has_adjacent (b ∷ bs) =
    if is_size b bs then behind_size letters has_adjacent (b - digit_zero) bs else Err BadSize

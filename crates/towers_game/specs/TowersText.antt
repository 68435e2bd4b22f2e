-- The descriptions of Towers puzzles: the grammar, the written form, and reading one.
use Rattle.std.specs.Prelude.{◌≡◌, ℕ, ◌+◌, ◌-◌, ◌*◌, ◌/◌, ◌%◌, ◌≤◌, ◌⊎◌, Bool, true, false, ◌==◌, ◌&&◌, not}
use Rattle.std.specs.Prelude.{if◌then◌else◌, List, [], ◌∷◌, ◌++◌, map, replicate, ◌||◌, nat_le, Option, Some, None, Result, Ok, Err}
use Rattle.std.specs.List.{join_with_byte, list_any, slice_split, list_all, flat_map}
use Rattle.byte_text.specs.Decimals.{begins_digit, is_digit}
use Rattle.towers_game.specs.Towers.{TowersValue, IsTowers}
use Rattle.byte_text.specs.Cuts.{before, behind}
use Rattle.byte_text.specs.Reading.{◌>>=◌}
use Rattle.game_texts.specs.declared.id_fault.IdFault.{IdFault}
use Rattle.game_texts.specs.declared.id_fault.IdFault.TheVariants.{BadClue, BadSquares}
use Rattle.game_texts.specs.IdFaults.{exactly}
use Rattle.byte_text.specs.Bytes.{comma, slash, underscore, digit_zero, letter_a, letter_z}

-- a clue is one digit, and no clue is nothing
abbrev pub clue_field : ℕ → List ℕ
clue_field clue = if clue == 0 then [] else ((digit_zero + clue) ∷ [])

-- the clues in description order, with `/` between them
abbrev pub clue_part : List ℕ → List ℕ
clue_part clues = join_with_byte slash (map clue_field clues)

-- how many blank squares a letter stands for: one for `a`
abbrev pub blanks_of : ℕ → ℕ
blanks_of b = b + 1 - letter_a

-- the text says the squares: a letter is a run of 1 to 26 blank ones, a digit that ends its run of digits is
-- a given, and `_` is nothing
abbrev pub IsSquareText : ℕ → List ℕ → List ℕ → Type 0
IsSquareText w [] squares = squares ≡ []
IsSquareText w (b ∷ bs) squares =
    ((b ≡ underscore) × IsSquareText w bs squares)
    ⊎ ((letter_a ≤ b) × (b ≤ letter_z)
    × ((more : List ℕ) × (squares ≡ replicate (blanks_of b) 0 ++ more) × IsSquareText w bs more))
    ⊎ ((digit_zero + 1 ≤ b) × (b ≤ digit_zero + w) × (begins_digit bs ≡ false)
    × ((more : List ℕ) × (squares ≡ (b - digit_zero) ∷ more) × IsSquareText w bs more))

-- the text is this front, and no square is given, or the front and after a `,` the squares
abbrev pub SaysSquares : ℕ → List ℕ → List ℕ → List ℕ → Type 0
SaysSquares w text front squares =
    ((text ≡ front) × (squares ≡ replicate (w * w) 0))
    ⊎ ((part : List ℕ) × (text ≡ front ++ comma ∷ part) × IsSquareText w part squares)

-- the text describes the puzzle: the clues, and after them the squares, if any is given
pub record IsTowersText (v : TowersValue) (text : List ℕ) : Type 0 where
  pub puzzle : IsTowers v
  pub parts : SaysSquares v.size text (clue_part v.clues) v.givens

-- n blank squares: `z` for each 26 while more than 26 are left, and a letter for the rest
abbrev pub blank_letters : ℕ → List ℕ
blank_letters n = if n == 0 then [] else (replicate ((n - 1) / 26) letter_z ++ ((letter_a + (n - 1) % 26) ∷ []))

-- a given after n blank squares, before which another given stands or none: `_` stands only between two givens
abbrev pub given_written : ℕ → Bool → ℕ → List ℕ
given_written n after_given square =
    blank_letters n ++ ((if (n == 0) && after_given then (underscore ∷ []) else []) ++ ((digit_zero + square) ∷ []))

-- the squares after n blank ones, before which a given stands or none
abbrev pub squares_written : ℕ → Bool → List ℕ → List ℕ
squares_written n after_given [] = blank_letters n
squares_written n after_given (square ∷ squares) =
    if square == 0 then squares_written (n + 1) after_given squares
    else (given_written n after_given square ++ squares_written 0 true squares)

-- a comma and the squares, where any is given
abbrev pub square_part : List ℕ → List ℕ
square_part givens =
    if list_any (λ n. not (n == 0)) givens then (comma ∷ squares_written 0 false givens) else []

-- the description that is written
abbrev pub towers_text : TowersValue → List ℕ
towers_text v = clue_part v.clues ++ square_part v.givens

-- the fields of a clue part, which slashes separate
abbrev pub fields : List ℕ → List (List ℕ)
fields part = slice_split (λ b. b == slash) part

-- a field is empty, or one digit from 1 to w
abbrev pub is_clue_field : ℕ → List ℕ → Bool
is_clue_field w [] = true
is_clue_field w (b ∷ []) = nat_le (digit_zero + 1) b && nat_le b (digit_zero + w)
is_clue_field w (b ∷ c ∷ bs) = false

-- the clue that a field says
abbrev pub clue_in : List ℕ → ℕ
clue_in [] = 0
clue_in (b ∷ bs) = b - digit_zero

-- the clues that the fields say, or a fault where one of them says none
abbrev pub clues_in : ℕ → List (List ℕ) → Result (List ℕ) IdFault
clues_in w fs = if list_all (is_clue_field w) fs then Ok (map clue_in fs) else Err BadClue

-- the clues that the part before the comma says at a width, or its first fault
unfoldable pub clues_at : ℕ → List ℕ → Result (List ℕ) IdFault
clues_at w part = exactly (4 * w) (fields part) >>= clues_in w

-- the byte stands for a run of blank squares
abbrev pub is_blank_letter : ℕ → Bool
is_blank_letter b = nat_le letter_a b && nat_le b letter_z

-- the byte may stand before these others
abbrev pub is_square_byte : ℕ → ℕ → List ℕ → Bool
is_square_byte w b bs =
    (b == underscore)
    || (is_blank_letter b || (nat_le (digit_zero + 1) b && (nat_le b (digit_zero + w) && not (begins_digit bs))))

-- each byte may stand before those after it
abbrev pub is_square_part : ℕ → List ℕ → Bool
is_square_part w [] = true
is_square_part w (b ∷ bs) = is_square_byte w b bs && is_square_part w bs

-- the squares that a byte stands for
abbrev pub squares_of : ℕ → List ℕ
squares_of b =
    if is_blank_letter b then replicate (blanks_of b) 0 else (if is_digit b then ((b - digit_zero) ∷ []) else [])

-- the givens that the part after the comma says at a width, or its first fault
unfoldable pub givens_at : ℕ → List ℕ → Result (List ℕ) IdFault
givens_at w part = if is_square_part w part then exactly (w * w) (flat_map squares_of part) else Err BadSquares

-- the givens of a description, which may lack the part after the comma: without it no square is given
abbrev pub givens_behind : ℕ → Option (List ℕ) → Result (List ℕ) IdFault
givens_behind w None = Ok (replicate (w * w) 0)
givens_behind w (Some part) = givens_at w part

-- the puzzle that a description says at a width, or its first fault
unfoldable pub towers_at : ℕ → List ℕ → Result TowersValue IdFault
towers_at w text = do
  clues ← clues_at w (before comma text)
  givens ← givens_behind w (behind comma text)
  Ok (record { size = w; clues = clues; givens = givens })

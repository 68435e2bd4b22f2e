-- The descriptions of Unequal puzzles: the grammar, the written form, and reading one.
use Rattle.std.specs.Prelude.{◌≡◌, ◌↔◌, ℕ, ◌+◌, ◌-◌, ◌*◌, ◌⊎◌, ◌==◌, Bool, false, if◌then◌else◌, List, [], ◌∷◌, ◌++◌}
use Rattle.std.specs.Prelude.{map, filter, slice_index, slice_index_or, Option, Some, None, Contains, IsSome, unwrap_or}
use Rattle.std.specs.Prelude.{◌&&◌, nat_le, true, not, drop, is_some, option_and_then, Result, Ok, Err}
use Rattle.std.specs.Option.{option_map_or}
use Rattle.std.specs.List.{join_with_byte, flat_map, range_with_len, list_all, list_any, slice_split}
use Rattle.unequal_game.specs.declared.unequal.direction.Direction.{Direction}
use Rattle.unequal_game.specs.declared.unequal.direction.Direction.TheVariants.{Up, Right, Down, Left}
use Rattle.unequal_game.specs.Unequal.{UnequalValue, IsUnequal, IsGreater, is_greater, neighbour, signed_puzzle}
use Rattle.byte_text.specs.Decimals.{begins_digit}
use Rattle.byte_text.specs.Reading.{◌>>=◌}
use Rattle.latin_board.specs.Squares.{GridValue}
use Rattle.game_texts.specs.declared.id_fault.IdFault.{IdFault}
use Rattle.game_texts.specs.declared.id_fault.IdFault.TheVariants.{BadClue, BadSquares, OffGrid, Contradiction}
use Rattle.unequal_game.specs.declared.unequal.sign.Sign.{Sign}
use Rattle.unequal_game.specs.declared.unequal.sign.Sign.TheVariants.{Absent, FirstGreater, SecondGreater}
use Rattle.game_texts.specs.IdFaults.{exactly}
use Rattle.byte_text.specs.Bytes.{comma, digit_zero, capital_u, capital_r, capital_d, capital_l}

-- the letter of a direction: U, R, D or L
abbrev pub letter_of : Direction → ℕ
letter_of Up = capital_u
letter_of Right = capital_r
letter_of Down = capital_d
letter_of Left = capital_l

-- what a text says of a square: its number, 0 for a blank, and in which directions it is the greater one
pub record Piece : Type 0 where
  pub number : ℕ
  pub greater : List Direction

-- the text of a piece: the digit of its number, and a letter for each direction
abbrev pub piece_text : Piece → List ℕ
piece_text p = (digit_zero + p.number) ∷ map letter_of p.greater

-- the directions that stand at a square, none past the last
abbrev pub directions_at : List Piece → ℕ → List Direction
directions_at pieces cell = slice_index_or (map (λ p. p.greater) pieces) cell []

-- a letter at the square a says that it is greater than b
pub record Says (w : ℕ) (pieces : List Piece) (a b : ℕ) : Type 0 where
  pub direction : Direction
  pub letter : Contains (directions_at pieces a) direction
  pub points : neighbour w a direction ≡ Some b

-- The text is these pieces, separated by commas, one comma more at the end or not.
abbrev pub ArePiecesOf : List ℕ → List (List ℕ) → Type 0
ArePiecesOf text pieces = (text ≡ join_with_byte comma pieces) ⊎ (text ≡ join_with_byte comma pieces ++ comma ∷ [])

-- The text describes the puzzle: a piece for each square in reading order. Letters stand in any order and may repeat,
-- and none points out of the grid.
pub record IsUnequalText (v : UnequalValue) (text : List ℕ) : Type 0 where
  pub puzzle : IsUnequal v
  pub pieces : List Piece
  pub written : ArePiecesOf text (map piece_text pieces)
  pub numbers : map (λ p. p.number) pieces ≡ v.givens
  pub inside : (cell : ℕ) (d : Direction) → Contains (directions_at pieces cell) d → IsSome (neighbour v.size cell d)
  pub signs : (a b : ℕ) → IsGreater v a b ↔ Says v.size pieces a b

-- the order in which letters are written
abbrev pub directions : List Direction
directions = Up ∷ Right ∷ Down ∷ Left ∷ []

-- whether the square is greater than its neighbour in the direction
abbrev pub is_greater_towards : UnequalValue → ℕ → Direction → Bool
is_greater_towards v cell d = option_map_or (λ b. is_greater v cell b) (neighbour v.size cell d) false

-- the piece in which a square is written: each sign once, at the greater square
abbrev pub piece_of : UnequalValue → ℕ → Piece
piece_of v cell = record {
  number = slice_index v.givens cell;
  greater = filter (is_greater_towards v cell) directions;
}

-- the text of the piece in which a square is written, which a comma ends
abbrev pub piece_written : UnequalValue → ℕ → List ℕ
piece_written v cell = piece_text (piece_of v cell) ++ comma ∷ []

-- the written form: the pieces of all squares
abbrev pub unequal_text : UnequalValue → List ℕ
unequal_text v = flat_map (piece_written v) (range_with_len 0 (v.size * v.size))

-- the pieces without the last one, if that is empty
abbrev pub without_empty_last : List (List ℕ) → List (List ℕ)
without_empty_last [] = []
without_empty_last ([] ∷ []) = []
without_empty_last ((b ∷ bs) ∷ []) = (b ∷ bs) ∷ []
without_empty_last (p ∷ q ∷ ps) = p ∷ without_empty_last (q ∷ ps)

-- the pieces of a text are what commas separate, without an empty one at the end
abbrev pub pieces_of : List ℕ → List (List ℕ)
pieces_of text = without_empty_last (slice_split (λ b. b == comma) text)

-- the digit from 0 to w with which the piece begins, if no other digit stands after it
abbrev pub number_in : ℕ → List ℕ → Option ℕ
number_in w [] = None
number_in w (b ∷ bs) =
    if nat_le digit_zero b && nat_le b (digit_zero + w) && not (begins_digit bs) then Some (b - digit_zero) else None

-- the piece begins with one digit from 0 to w
abbrev pub begins_with_number : ℕ → List ℕ → Bool
begins_with_number w piece = is_some (number_in w piece)

-- the direction that a letter stands for
abbrev pub direction_of : ℕ → Option Direction
direction_of b =
    if b == capital_u then Some Up
    else (if b == capital_r then Some Right
    else (if b == capital_d then Some Down
    else (if b == capital_l then Some Left else None)))

-- all bytes after the digit are letters
abbrev pub has_letters : List ℕ → Bool
has_letters piece = list_all (λ b. is_some (direction_of b)) (drop 1 piece)

-- the piece of a square, empty past the last
abbrev pub piece_at : List (List ℕ) → ℕ → List ℕ
piece_at pieces cell = slice_index_or pieces cell []

-- the byte is a letter, and at this square it points to a square of the grid
abbrev pub is_inside : ℕ → ℕ → ℕ → Bool
is_inside w cell b = is_some (option_and_then (neighbour w cell) (direction_of b))

-- all letters at a square point to squares of the grid
abbrev pub points_inside : ℕ → List (List ℕ) → ℕ → Bool
points_inside w pieces cell = list_all (is_inside w cell) (drop 1 (piece_at pieces cell))

-- the letter of a direction stands at a square
abbrev pub says : List (List ℕ) → ℕ → Direction → Bool
says pieces cell d = list_any (λ b. b == letter_of d) (drop 1 (piece_at pieces cell))

-- the sign of two neighbours by whether the first is said to be the greater one, and whether the second is
abbrev pub said_sign : Bool → Bool → Sign
said_sign true second = FirstGreater
said_sign false true = SecondGreater
said_sign false false = Absent

-- `Says` as a test of the bytes of pieces
abbrev pub says_greater : ℕ → List (List ℕ) → ℕ → ℕ → Bool
says_greater w pieces a b =
    list_any (λ d. says pieces a d && option_map_or (λ c. c == b) (neighbour w a d) false) directions

-- of some two squares, each is said to be the greater one
unfoldable pub contradicts : ℕ → List (List ℕ) → Bool
contradicts w pieces =
    list_any (λ a. list_any (λ b. says_greater w pieces a b && says_greater w pieces b a) (range_with_len 0 (w * w)))
    (range_with_len 0 (w * w))

-- the grid of the numbers that pieces begin with
abbrev pub grid_in : ℕ → List (List ℕ) → GridValue
grid_in w pieces = record { size = w; numbers = map (λ piece. unwrap_or (number_in w piece) 0) pieces }

-- the sign between two neighbours that pieces say
abbrev pub sign_said : ℕ → List (List ℕ) → ℕ → ℕ → Sign
sign_said w pieces a b = said_sign (says_greater w pieces a b) (says_greater w pieces b a)

-- the puzzle that pieces describe
abbrev pub puzzle_in : ℕ → List (List ℕ) → UnequalValue
puzzle_in w pieces = signed_puzzle w (sign_said w pieces) (grid_in w pieces).numbers

-- the puzzle that pieces describe, or the first of the faults that lie in them
abbrev pub puzzle_at : ℕ → List (List ℕ) → Result UnequalValue IdFault
puzzle_at w pieces =
    if not (list_all (begins_with_number w) pieces) then Err BadSquares
    else (if not (list_all has_letters pieces) then Err BadClue
    else (if not (list_all (points_inside w pieces) (range_with_len 0 (w * w))) then Err OffGrid
    else (if contradicts w pieces then Err Contradiction
    else Ok (puzzle_in w pieces))))

-- the puzzle that a description says at a width, or its first fault
unfoldable pub unequal_at : ℕ → List ℕ → Result UnequalValue IdFault
unequal_at w text = exactly (w * w) (pieces_of text) >>= puzzle_at w

-- Latin squares with givens: the items of a puzzle, and its description.
use Rattle.std.specs.Prelude.{ℕ, ◌-◌, ◌*◌, ◌&&◌, ◌++◌, Bool, nat_le, nat_lt, if◌then◌else◌, zero, List, [], ◌∷◌, map}
use Rattle.std.specs.Prelude.{Option, Some, None, option_map, option_and_then, Result, ok_or}
use Rattle.byte_text.specs.Bytes.{digit, digit_zero, line_feed}
use Rattle.byte_text.specs.Reading.{◌>>=◌}
use Rattle.latin_board.specs.Squares.{GridValue, number_at}
use Rattle.latin_board.specs.Boards.{BoardValue}
use Rattle.game_texts.specs.declared.id_fault.IdFault.{IdFault}
use Rattle.game_texts.specs.declared.id_fault.IdFault.TheVariants.{BadSquares}
use Rattle.clue_rules.specs.IdFaults.{exactly}
use Rattle.trail_solver.specs.Items.{kept_items}

-- each square may have a given
abbrev pub items_of : ℕ → ℕ
items_of w = w * w

-- an item is there where its square has a given
abbrev pub has_given : GridValue → ℕ → Bool
has_given p i = nat_lt 0 (number_at p i)

-- the puzzle without its givens outside a set
abbrev pub cut_givens : GridValue → (ℕ → Bool) → GridValue
cut_givens p keep = record { size = p.size; numbers = kept_items zero keep 0 p.numbers }

-- the description: the digit of each square in reading order, 0 where there is no given
abbrev pub latin_desc : GridValue → List ℕ
latin_desc p = map digit p.numbers

-- the number that a byte says, at most the width
abbrev pub number_of_byte : ℕ → ℕ → Option ℕ
number_of_byte w b = if nat_le digit_zero b && nat_le b (digit w) then Some (b - digit_zero) else None

-- the numbers that bytes say, one each
abbrev pub numbers_in : ℕ → List ℕ → Option (List ℕ)
numbers_in w [] = Some []
numbers_in w (b ∷ bs) = option_and_then (λ n. option_map (λ ns. n ∷ ns) (numbers_in w bs)) (number_of_byte w b)

-- the puzzle of a width that so many bytes describe
abbrev pub givens_in : ℕ → List ℕ → Result GridValue IdFault
givens_in w text = ok_or (option_map (λ ns. record { size = w; numbers = ns }) (numbers_in w text)) BadSquares

-- the puzzle of a width that a text describes, or the text's first fault
unfoldable pub latin_at : ℕ → List ℕ → Result GridValue IdFault
latin_at w text = exactly (w * w) text >>= givens_in w

-- the picture: the numbers in one line
abbrev pub latin_picture : GridValue → BoardValue → List ℕ
latin_picture p b = map digit b.numbers ++ line_feed ∷ []

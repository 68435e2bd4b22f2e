-- Moves as text: the grammar, the fault of a text that is no move, and reading as a function on lists.
use Rattle.std.specs.Prelude.{◌≡◌, ℕ, zero, ◌+◌, ◌-◌, ◌≤◌, ℤ, pos, negsuc, ◌==◌, ◌||◌, ◌&&◌, nat_le, if◌then◌else◌}
use Rattle.std.specs.Prelude.{List, [], ◌∷◌, ◌++◌, length, map, codes, bytes_eq, Option, Some, None, option_map, option_and_then, Result, ok_or}
use Rattle.std.specs.Fmt.{decimal}
use Rattle.latin_board.specs.Squares.{GridValue, IsGrid, IsFull}
use Rattle.byte_text.specs.Cuts.{before, behind}
use Rattle.byte_text.specs.Decimals.{decimal_value}
use Rattle.play_midend.specs.declared.moves.Move.{Move}
use Rattle.play_midend.specs.declared.moves.Move.TheVariants.{Real, Pencil, MarkAll, Solve, Restart, Done}
use Rattle.play_midend.specs.declared.fault.PlayFault.{PlayFault}
use Rattle.play_midend.specs.declared.fault.PlayFault.TheVariants.{BadMove, Unsupported}
use Rattle.byte_text.specs.Bytes.{capital_r, capital_p, capital_m, capital_s, capital_d, capital_h, capital_f, comma, dash, digit_zero, digit}

-- three numbers in decimal, with commas
abbrev pub three_text : ℕ → ℕ → ℕ → List ℕ
three_text x y n = decimal x ++ (comma ∷ (decimal y ++ (comma ∷ decimal n)))

-- the text of one coordinate of a done mark's place
abbrev pub coordinate_text : ℤ → List ℕ
coordinate_text (pos n) = decimal n
coordinate_text (negsuc n) = dash ∷ decimal (n + 1)

-- a move as it is written; a restart has no text
abbrev pub move_text : Move → List ℕ
move_text (Real x y n) = capital_r ∷ three_text x y n
move_text (Pencil x y n) = capital_p ∷ three_text x y n
move_text MarkAll = capital_m ∷ []
move_text (Solve g) = capital_s ∷ map digit g.numbers
move_text Restart = []
move_text (Done x y) = capital_d ∷ (coordinate_text x ++ (comma ∷ coordinate_text y))

-- the numbers are within what a text holds
pub record AreBytes (x y n : ℕ) : Type 0 where
  pub x_is : x ≤ 255
  pub y_is : y ≤ 255
  pub n_is : n ≤ 255

-- a grid without a blank
pub record IsFullGrid (g : GridValue) : Type 0 where
  pub grid : IsGrid g
  pub full : IsFull g

-- -1, or a number up to 127
abbrev pub IsCoordinate : ℤ → Type 0
IsCoordinate (pos n) = n ≤ 127
IsCoordinate (negsuc n) = n ≡ 0

-- the moves that have a text
abbrev pub IsWritable : Move → Type 0
IsWritable (Real x y n) = AreBytes x y n
IsWritable (Pencil x y n) = AreBytes x y n
IsWritable MarkAll = Unit {0}
IsWritable (Solve g) = IsFullGrid g
IsWritable Restart = ⊥
IsWritable (Done x y) = IsCoordinate x × IsCoordinate y

-- the text is this move's
pub record IsMoveText (m : Move) (text : List ℕ) : Type 0 where
  pub writable : IsWritable m
  pub spelled : text ≡ move_text m

-- the fault of a text that is no move: hints and spent signs are told by their first byte
abbrev pub move_fault : List ℕ → PlayFault
move_fault [] = BadMove
move_fault (b ∷ bs) = if (b == capital_h) || (b == capital_f) then Unsupported else BadMove

-- three numbers, if each of them was read
abbrev pub all_three : Option ℕ → Option ℕ → Option ℕ → Option (ℕ × ℕ × ℕ)
all_three (Some x) (Some y) (Some n) = Some (x, y, n)
all_three _ _ _ = None

-- three numbers, the first of which was read, with the two that are read of the rest
abbrev pub three_from : Option ℕ → List ℕ → Option (ℕ × ℕ × ℕ)
three_from x rest =
    option_and_then (λ last. all_three x (decimal_value 255 (before comma rest)) (decimal_value 255 last))
    (behind comma rest)

-- three numbers round two commas, each up to 255
abbrev pub three_at : List ℕ → Option (ℕ × ℕ × ℕ)
three_at text = option_and_then (λ rest. three_from (decimal_value 255 (before comma text)) rest) (behind comma text)

-- a coordinate of a place on the edge: -1, or up to 127
abbrev pub coordinate_at : List ℕ → Option ℤ
coordinate_at text = if bytes_eq text (codes "-1") then Some (negsuc zero) else option_map pos (decimal_value 127 text)

-- both coordinates, if each of them was read
abbrev pub both : Option ℤ → Option ℤ → Option (ℤ × ℤ)
both (Some x) (Some y) = Some (x, y)
both _ _ = None

-- two coordinates round a comma
abbrev pub two_at : List ℕ → Option (ℤ × ℤ)
two_at text =
    option_and_then (λ rest. both (coordinate_at (before comma text)) (coordinate_at rest)) (behind comma text)

-- the size of a grid with so many squares
abbrev pub size_by_count : ℕ → Option ℕ
size_by_count n =
    if n == 9 then Some 3 else (if n == 16 then Some 4 else (if n == 25 then Some 5 else (if n == 36 then Some 6
    else (if n == 49 then Some 7 else (if n == 64 then Some 8 else (if n == 81 then Some 9 else None))))))

-- the number that a byte is as a digit, if this is from 1 to w
abbrev pub digit_at : ℕ → ℕ → Option ℕ
digit_at w b = if nat_le (digit 1) b && nat_le b (digit w) then Some (b - digit_zero) else None

-- the numbers that the digits of a text are, one for each byte
abbrev pub digits_at : ℕ → List ℕ → Option (List ℕ)
digits_at w [] = Some []
digits_at w (b ∷ bs) = option_and_then (λ n. option_map (λ ns. n ∷ ns) (digits_at w bs)) (digit_at w b)

-- a text of digits, as a grid of this size
abbrev pub solution_of : List ℕ → ℕ → Option GridValue
solution_of text w = option_map (λ ns. record { size = w; numbers = ns }) (digits_at w text)

-- a text of digits, as the grid that has so many squares
abbrev pub solution_at : List ℕ → Option GridValue
solution_at text = option_and_then (λ w. solution_of text w) (size_by_count (length text))

-- the move that marks all, if nothing stands after the letter
abbrev pub mark_all_at : List ℕ → Option Move
mark_all_at [] = Some MarkAll
mark_all_at (b ∷ bs) = None

-- the move that a text spells, by its first byte
abbrev pub move_by : List ℕ → Option Move
move_by [] = None
move_by (b ∷ bs) =
    if b == capital_r then option_map (λ (x, y, n). Real x y n) (three_at bs)
    else (if b == capital_p then option_map (λ (x, y, n). Pencil x y n) (three_at bs)
    else (if b == capital_m then mark_all_at bs
    else (if b == capital_s then option_map Solve (solution_at bs)
    else (if b == capital_d then option_map (λ (x, y). Done x y) (two_at bs) else None))))

-- reading a text: its move, or its fault
unfoldable pub move_at : List ℕ → Result Move PlayFault
move_at text = ok_or (move_by text) (move_fault text)

-- The format, its squares: the stream of random words of a game, and the Latin square that is drawn from it, row by row.
use Rattle.std.specs.Prelude.{ℕ, zero, suc, ◌+◌, ◌*◌, ◌==◌, Bool, false, not, ◌||◌, ◌&&◌, if◌then◌else◌, Option, Some}
use Rattle.std.specs.Prelude.{None, List, [], ◌∷◌, ◌++◌, replicate, slice_index, slice_set}
use Rattle.std.specs.List.{flat_map, list_any, slice_get}
use Rattle.std.specs.Int.{w64, to_be_bytes}
use Rattle.latin_board.specs.Squares.{GridValue, blank_grid, number_at, latin_test}
use Rattle.rand_core.specs.Stream.{Stream}
use Rattle.rand_core.specs.Steps.{stream_of, steps_u32}
use Rattle.rand_chacha.specs.ChaCha.{of_seed, next_word}
use Rattle.puzzle_gen.specs.SeededSquares.{drawn_order, square_of}

-- the key of the cipher: the seed's 8 bytes, greatest first, the size, the grade's letter, the game's initial, and 21
-- zero bytes
abbrev pub fair_key : ℕ → ℕ → ℕ → ℕ → List ℕ
fair_key w letter initial seed = to_be_bytes w64 seed ++ w ∷ letter ∷ initial ∷ replicate 21 0

-- the stream of ChaCha20 with that key, word by word
abbrev pub fair_stream : ℕ → ℕ → ℕ → ℕ → Stream
fair_stream w letter initial seed = stream_of (steps_u32 (next_word 10)) (of_seed (fair_key w letter initial seed))

-- the number stands in the column, in one of the first n rows
abbrev pub stands_in : GridValue → ℕ → ℕ → ℕ → Bool
stands_in g column number zero = false
stands_in g column number (suc n) = stands_in g column number n || (number_at g (n * g.size + column) == number)

-- the number, counted from 0, wasn't chosen yet and doesn't stand in the column
abbrev pub is_free : GridValue → ℕ → List ℕ → ℕ → Bool
is_free g column chosen n = not (list_any (λ c. c == n) chosen) && not (stands_in g column (n + 1) g.size)

-- the ways to go on in a row, in the order of the numbers: each of the columns has a free one
abbrev pub ways : GridValue → List ℕ → List ℕ → List ℕ → List (List ℕ)
ways g numbers [] chosen = chosen ∷ []
ways g numbers (column ∷ columns) chosen =
    flat_map (λ n. if is_free g column chosen n then ways g numbers columns (chosen ++ n ∷ []) else []) numbers

-- the first of the ways, if there is one
abbrev pub first_row : GridValue → List ℕ → List ℕ → List ℕ → Option (List ℕ)
first_row g numbers columns chosen = slice_get (ways g numbers columns chosen) 0

-- the grid with the first k of the chosen numbers in their columns of a row
abbrev pub with_row : GridValue → ℕ → List ℕ → List ℕ → ℕ → GridValue
with_row g row columns chosen zero = g
with_row g row columns chosen (suc k) =
    let before = with_row g row columns chosen k in
    record {
      size = g.size;
      numbers = slice_set before.numbers (row * g.size + slice_index columns k) (slice_index chosen k + 1);
    }

-- the grid with the first of the ways in a row, or as it was where there is none
abbrev pub with_first_row : GridValue → ℕ → List ℕ → Option (List ℕ) → GridValue
with_first_row g row columns None = g
with_first_row g row columns (Some chosen) = with_row g row columns chosen g.size

-- a row more: an order of the columns, an order of the numbers, and the first row by these; and the stream that is left
abbrev pub next_row : ℕ → GridValue × Stream → GridValue × Stream
next_row row before =
    let columns = drawn_order before.0.size before.1 in
    let numbers = drawn_order before.0.size columns.1 in
    (with_first_row before.0 row columns.0 (first_row before.0 numbers.0 columns.0 []), numbers.1)

-- the first rows of a square, and the stream that is left
abbrev pub drawn_rows : ℕ → ℕ → Stream → GridValue × Stream
drawn_rows w zero s = (blank_grid w, s)
drawn_rows w (suc row) s = next_row row (drawn_rows w row s)

-- all rows; the square of seed 0 stands for what wouldn't be Latin, which never comes about
abbrev pub drawn_latin : ℕ → Stream → GridValue × Stream
drawn_latin w s =
    let rows = drawn_rows w w s in
    (if latin_test rows.0 then rows.0 else square_of w 0, rows.1)

-- The choices of a seed: a stream of random words, a Latin square, and an order of its full puzzle's items.
use Rattle.std.specs.Prelude.{ℕ, ◌+◌, ◌*◌, ◌/◌, ◌%◌, List, ◌++◌, replicate, slice_index, map}
use Rattle.std.specs.Int.{w64, to_be_bytes}
use Rattle.std.specs.List.{range_with_len}
use Rattle.latin_board.specs.Squares.{GridValue}
use Rattle.rand_core.specs.Stream.{Stream}
use Rattle.rand_core.specs.Steps.{stream_of, steps_u32}
use Rattle.rand_chacha.specs.ChaCha.{of_seed, next_word}
use Rattle.rand.specs.Shuffle.{shuffled}

-- the key of the cipher: the seed's 8 bytes, greatest first, then 24 zero bytes
abbrev pub key_bytes : ℕ → List ℕ
key_bytes seed = to_be_bytes w64 seed ++ replicate 24 0

-- the stream of ChaCha20 with that key, word by word
abbrev pub stream_of_seed : ℕ → Stream
stream_of_seed seed = stream_of (steps_u32 (next_word 10)) (of_seed (key_bytes seed))

-- the numbers from 0 to n - 1, shuffled, and the stream that is left
abbrev pub drawn_order : ℕ → Stream → List ℕ × Stream
drawn_order n s = shuffled (range_with_len 0 n) 0 s

-- the number at a square: a symbol, at the row's and the column's numbers added
abbrev pub seeded_number : ℕ → List ℕ → List ℕ → List ℕ → ℕ → ℕ
seeded_number w rows columns symbols cell =
    slice_index symbols ((slice_index rows (cell / w) + slice_index columns (cell % w)) % w) + 1

-- the grid of all these numbers
abbrev pub combined : ℕ → List ℕ → List ℕ → List ℕ → GridValue
combined w rows columns symbols =
    record { size = w; numbers = map (seeded_number w rows columns symbols) (range_with_len 0 (w * w)) }

-- a square of three orders, each drawn afresh: of the rows, the columns and the symbols; and the stream that is left
abbrev pub drawn_square : ℕ → Stream → GridValue × Stream
drawn_square w s =
    let rows = drawn_order w s in
    let columns = drawn_order w rows.1 in
    let symbols = drawn_order w columns.1 in
    (combined w rows.0 columns.0 symbols.0, symbols.1)

-- the square of a size and a seed
abbrev pub square_of : ℕ → ℕ → GridValue
square_of w seed = (drawn_square w (stream_of_seed seed)).0

-- the order in which n items are tried: a fourth one, of what the square leaves of the stream
abbrev pub trial_order : ℕ → ℕ → ℕ → List ℕ
trial_order n w seed = (drawn_order n (drawn_square w (stream_of_seed seed)).1).0

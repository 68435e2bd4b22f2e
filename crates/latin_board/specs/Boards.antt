-- The board of a game: numbers, pencil marks, two flags and the done marks of edge clues.
use Rattle.std.specs.Prelude.{◌≡◌, ℕ, ◌*◌, ◌<◌, Bool, true, false, List, length, slice_index, replicate, All}
use Rattle.latin_board.specs.Squares.{GridValue, IsGrid}
use Rattle.number_sets.specs.Sets.{has_number, no_numbers, flip_number}
use Rattle.latin_board.specs.Marks.{IsMarkSet}

-- a board: its numbers, its pencil marks, both flags, and which clues are marked as done
pub record BoardValue : Type 0 where
  pub size : ℕ
  pub numbers : List ℕ
  pub marks : List ℕ
  pub completed : Bool
  pub cheated : Bool
  pub done : ℕ

-- the numbers of a board
abbrev pub grid_of : BoardValue → GridValue
grid_of b = record { size = b.size; numbers = b.numbers }

-- the pencil marks at a square
abbrev pub marks_at : BoardValue → ℕ → ℕ
marks_at b cell = slice_index b.marks cell

-- whether the edge clue at a place is marked as done
abbrev pub is_done : BoardValue → ℕ → Bool
is_done b place = has_number b.done place

-- what each board of the program keeps
pub record IsBoard (b : BoardValue) : Type 0 where
  pub is_grid : IsGrid (grid_of b)
  pub mark_count : length b.marks ≡ b.size * b.size
  pub marks_within : All (IsMarkSet b.size) b.marks
  pub done_within : (place : ℕ) → is_done b place ≡ true → place < 4 * b.size

-- the board of a new game
abbrev pub start_board : GridValue → BoardValue
start_board g = record {
  size = g.size;
  numbers = g.numbers;
  marks = replicate (g.size * g.size) no_numbers;
  completed = false;
  cheated = false;
  done = no_numbers;
}

-- the board with the done mark of one edge clue flipped
abbrev pub with_done_flipped : BoardValue → ℕ → BoardValue
with_done_flipped b place = record b { done = flip_number b.done place }

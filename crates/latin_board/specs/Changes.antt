-- The content of a change of a board, and both of them after an exchange.
use Rattle.std.specs.Prelude.{◌≡◌, ℕ, ◌*◌, ◌<◌, ◌≤◌, Bool, slice_set}
use Rattle.latin_board.specs.Squares.{number_at}
use Rattle.latin_board.specs.Marks.{IsMarkSet}
use Rattle.latin_board.specs.Boards.{BoardValue, grid_of, marks_at}

-- the content of one square, and both flags
pub record SquareValue : Type 0 where
  pub cell : ℕ
  pub number : ℕ
  pub marks : ℕ
  pub completed : Bool
  pub cheated : Bool

-- a change of one square, or of the whole board
pub data ChangeValue : Type 0 where
  OneSquare : SquareValue → ChangeValue
  WholeBoard : BoardValue → ChangeValue

-- the square stands on a board of width w, and its content is for that width
pub record FitsSize (w : ℕ) (s : SquareValue) : Type 0 where
  pub cell : s.cell < w * w
  pub number : s.number ≤ w
  pub marks : IsMarkSet w s.marks

-- the change can be exchanged with the board
abbrev pub FitsBoard : BoardValue → ChangeValue → Type 0
FitsBoard b (OneSquare s) = FitsSize b.size s
FitsBoard b (WholeBoard other) = other.size ≡ b.size

-- the board after the exchange: done marks go with a whole board alone
abbrev pub board_after : BoardValue → ChangeValue → BoardValue
board_after b (OneSquare s) = record b {
  numbers = slice_set b.numbers s.cell s.number;
  marks = slice_set b.marks s.cell s.marks;
  completed = s.completed;
  cheated = s.cheated;
}
board_after b (WholeBoard other) = other

-- the change after the exchange: what the board held in the same place
abbrev pub change_after : BoardValue → ChangeValue → ChangeValue
change_after b (OneSquare s) = OneSquare (record {
  cell = s.cell;
  number = number_at (grid_of b) s.cell;
  marks = marks_at b s.cell;
  completed = b.completed;
  cheated = b.cheated;
})
change_after b (WholeBoard other) = WholeBoard b

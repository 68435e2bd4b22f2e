-- A square's number in the other squares of a line.
use Rattle.std.specs.Prelude.{◌≡◌, ◌≢◌, ℕ, ◌<◌}
use Rattle.latin_board.specs.Squares.{GridValue, number_at}
use Rattle.latin_board.specs.Lines.{line_cell}

-- another square of the line has the square's number
pub record IsElsewhere (g : GridValue) (cell line : ℕ) : Type 0 where
  pub place : ℕ
  pub within : place < g.size
  pub apart : line_cell g.size line place ≢ cell
  pub same : number_at g (line_cell g.size line place) ≡ number_at g cell

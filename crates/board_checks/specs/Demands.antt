-- Demands on the numbers of some squares of a row or column, and when a grid can't meet one any more.
use Rattle.std.specs.Prelude.{◌≡◌, ◌≢◌, ℕ, ◌*◌, ◌<◌, ◌≤◌, Bool, IsTrue, List, length, map, slice_index, All, AllPairs}
use Rattle.latin_board.specs.Squares.{GridValue, number_at}
use Rattle.latin_board.specs.Lines.{ArePeers}

-- some squares, and what must be so of their numbers
pub record Demand : Type 0 where
  pub cells : List ℕ
  pub says : List ℕ → Bool

-- the squares are squares of a grid of this width, each two of them in one row or column
pub record IsOfPeers (w : ℕ) (d : Demand) : Type 0 where
  pub inside : All (λ cell. cell < w * w) d.cells
  pub peers : AllPairs (ArePeers w) d.cells

-- the grid's numbers on the demand's squares, 0 where a square is blank
abbrev pub numbers_of : GridValue → Demand → List ℕ
numbers_of g d = map (number_at g) d.cells

-- the line with its blanks filled: each from 1 to w, none twice
pub record IsFillingIn (w : ℕ) (line filled : List ℕ) : Type 0 where
  pub same_length : length filled ≡ length line
  pub keeps : (k : ℕ) → k < length line → 0 < slice_index line k → slice_index filled k ≡ slice_index line k
  pub within : All (λ n. (1 ≤ n) × (n ≤ w)) filled
  pub apart : AllPairs (λ a b. a ≢ b) filled

-- however the demand's squares are filled in, it isn't met
abbrev pub IsBroken : GridValue → Demand → Type 0
IsBroken g d = (filled : List ℕ) → IsFillingIn g.size (numbers_of g d) filled → IsTrue (d.says filled) → ⊥

-- the square has a number that another square of its row or column has too
pub record IsRepeated (g : GridValue) (cell : ℕ) : Type 0 where
  pub filled : 0 < number_at g cell
  pub other : ℕ
  pub peers : ArePeers g.size cell other
  pub same : number_at g other ≡ number_at g cell

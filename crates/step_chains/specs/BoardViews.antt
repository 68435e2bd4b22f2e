-- The candidates that are in view of a board with pencil marks.
use Rattle.std.specs.Prelude.{◌≡◌, ◌≢◌, ◌↔◌, ℕ, ◌⊎◌, true}
use Rattle.number_sets.specs.Sets.{has_number, no_numbers}
use Rattle.latin_board.specs.Boards.{BoardValue, grid_of, marks_at}
use Rattle.latin_board.specs.Lines.{ArePeers}
use Rattle.latin_board.specs.Squares.{number_at}
use Rattle.trail_solver.specs.Candidates.{CandidatesValue, may_be}
use Rattle.trail_solver.specs.Pairs.{IsPair}

-- the value is one of the square's pencil marks, or the square has none
abbrev pub IsMarked : BoardValue → ℕ → ℕ → Type 0
IsMarked b cell value = (marks_at b cell ≡ no_numbers) ⊎ (has_number (marks_at b cell) value ≡ true)

-- the candidates in view of a board: a filled square has its number, and an empty one what doesn't stand in its row or
-- column and, if it has pencil marks, is among these
pub record IsBoardView (b : BoardValue) (c : CandidatesValue) : Type 0 where
  pub size : c.size ≡ b.size
  pub filled : (cell value : ℕ) → IsPair b.size cell value → number_at (grid_of b) cell ≢ 0
      → (may_be c cell value ≡ true) ↔ (value ≡ number_at (grid_of b) cell)
  pub empty : (cell value : ℕ) → IsPair b.size cell value → number_at (grid_of b) cell ≡ 0
      → (may_be c cell value ≡ true)
      ↔ (((peer : ℕ) → ArePeers b.size peer cell → number_at (grid_of b) peer ≢ value) × IsMarked b cell value)

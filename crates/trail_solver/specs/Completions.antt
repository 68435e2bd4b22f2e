-- The grids that complete what stands on a grid, and the candidates that its numbers leave.
use Rattle.std.specs.Prelude.{◌≡◌, ◌↔◌, ℕ, ◌*◌, ◌<◌, ◌⊎◌, true}
use Rattle.latin_board.specs.Squares.{GridValue, number_at}
use Rattle.trail_solver.specs.Pairs.{IsPair}
use Rattle.trail_solver.specs.Candidates.{CandidatesValue, may_be}
use Rattle.trail_solver.specs.Puzzles.{Puzzle, Solves}

-- each number of the first grid stands in the second, in the same square
abbrev pub Keeps : GridValue → GridValue → Type 0
Keeps g h = (cell : ℕ) → cell < g.size * g.size → 0 < number_at g cell → number_at h cell ≡ number_at g cell

-- a solution of the puzzle that keeps the numbers of a grid
abbrev pub Completes : Puzzle → GridValue → GridValue → Type 0
Completes p g h = Solves p h × Keeps g h

-- a square with a number has that number alone, and an empty one has each number of the size
pub record AreOfGrid (g : GridValue) (c : CandidatesValue) : Type 0 where
  pub size : c.size ≡ g.size
  pub each : (cell value : ℕ) → IsPair g.size cell value
      → (may_be c cell value ≡ true) ↔ ((number_at g cell ≡ 0) ⊎ (number_at g cell ≡ value))

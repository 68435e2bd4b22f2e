-- The solutions of a puzzle among the candidates of its squares.
use Rattle.std.specs.Prelude.{◌≡◌, ℕ, ◌<◌}
use Rattle.latin_board.specs.Squares.{GridValue, number_at}
use Rattle.trail_solver.specs.Candidates.{CandidatesValue, IsWithin}
use Rattle.trail_solver.specs.Puzzles.{Puzzle, Solves}

-- a solution whose numbers are all candidates
abbrev pub IsAmong : Puzzle → CandidatesValue → GridValue → Type 0
IsAmong p c g = Solves p g × IsWithin c g

-- a solution among the candidates that has the value in the cell
abbrev pub IsAmongAt : Puzzle → CandidatesValue → ℕ → ℕ → GridValue → Type 0
IsAmongAt p c cell value g = Solves p g × (IsWithin c g × (number_at g cell ≡ value))

-- a solution among the candidates that has a smaller value in the cell
abbrev pub IsAmongBelow : Puzzle → CandidatesValue → ℕ → ℕ → GridValue → Type 0
IsAmongBelow p c cell value g = Solves p g × (IsWithin c g × (number_at g cell < value))

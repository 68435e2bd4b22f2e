use Rattle.std.proofs.Common.{◌≢◌, ℕ, ◌<◌}
use Rattle.latin_board.specs.Squares.{number_at}
use Rattle.latin_board.specs.Lines.{line_cell}
use Rattle.board_checks.proofs.repeats.is_elsewhere.Given as goal

abbrev pub invariant-loop-place : goal.invariant-loop-place
invariant-loop-place l =
    (k : ℕ) → k < l.place → line_cell l.grid.size l.line k ≢ l.cell → number_at l.grid (line_cell l.grid.size l.line k) ≢ l.number

use Rattle.std.proofs.Common.{◌≡◌, ℕ, ◌<◌, true}
use Rattle.latin_board.specs.Squares.{number_at}
use Rattle.trail_solver.specs.Candidates.{may_be}
use Rattle.json_replies.proofs.marked_hints.first_lacking.Given as goal

abbrev pub invariant-loop-cell : goal.invariant-loop-cell
invariant-loop-cell l = (earlier : ℕ) → earlier < l.cell → may_be l.view earlier (number_at l.grid earlier) ≡ true

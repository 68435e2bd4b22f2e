use Rattle.std.proofs.Common.{◌≡◌, ◌≢◌, ℕ, ◌<◌, false}
use Rattle.number_sets.specs.Sets.{has_number}
use Rattle.latin_board.specs.Lines.{line_cell}
use Rattle.line_steps.proofs.steps.set_strikes.is_other.Given as goal

abbrev pub invariant-loop-k : goal.invariant-loop-k
invariant-loop-k l = (j : ℕ) → j < l.k → has_number l.squares j ≡ false → line_cell l.size l.line j ≢ l.cell

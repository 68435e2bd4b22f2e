use Rattle.std.proofs.Common.{◌≡◌, ℕ, ◌<◌}
use Rattle.latin_board.specs.Lines.{line_cell}
use Rattle.line_steps.specs.Left.{IsLeft}
use Rattle.line_steps.proofs.steps.latin_strikes.has_no_other_place.Given as goal

abbrev pub invariant-loop-k : goal.invariant-loop-k
invariant-loop-k l = (j : ℕ) → j < l.k → IsLeft l.candidates (line_cell l.candidates.size l.line j) l.value → j ≡ l.index

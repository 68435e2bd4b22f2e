use Rattle.std.proofs.Common.{ℕ, ◌<◌}
use Rattle.latin_board.specs.Lines.{line_cell}
use Rattle.line_steps.specs.Left.{IsLeft}
use Rattle.step_texts.proofs.dead_ends.has_no_square.Given as goal

abbrev pub invariant-loop-index : goal.invariant-loop-index
invariant-loop-index l = (k : ℕ) → k < l.index → IsLeft l.left (line_cell l.left.size l.line k) l.value → ⊥

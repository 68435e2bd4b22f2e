use Rattle.std.proofs.Common.{ℕ, ◌<◌}
use Rattle.line_steps.specs.Left.{IsLeft}
use Rattle.step_chains.proofs.aims.first_empty.Given as goal

abbrev pub invariant-loop-cell : goal.invariant-loop-cell
invariant-loop-cell l = (j : ℕ) → j < l.cell → (value : ℕ) × IsLeft l.candidates j value

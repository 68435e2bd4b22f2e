use Rattle.std.proofs.Common.{ℕ, ◌<◌}
use Rattle.named_steps.specs.declared.goal.Goal.TheVariants.{OnlyValue}
use Rattle.step_chains.specs.Inner.Goals.{IsOpenShown}
use Rattle.step_chains.proofs.goals.shown_in_squares.Given as goal

abbrev pub invariant-loop-cell : goal.invariant-loop-cell
invariant-loop-cell l = (j value : ℕ) → j < l.cell → IsOpenShown l.grid l.candidates (OnlyValue j value) → ⊥

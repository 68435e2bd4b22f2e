use Rattle.std.proofs.Common.{ℕ, ◌<◌}
use Rattle.named_steps.specs.declared.goal.Goal.TheVariants.{OnlyPlace}
use Rattle.step_chains.specs.Inner.Goals.{IsOpenShown}
use Rattle.step_chains.proofs.goals.shown_on_lines.Given as goal

abbrev pub invariant-loop-line : goal.invariant-loop-line
invariant-loop-line l = (j index value : ℕ) → j < l.line → IsOpenShown l.grid l.candidates (OnlyPlace j index value) → ⊥

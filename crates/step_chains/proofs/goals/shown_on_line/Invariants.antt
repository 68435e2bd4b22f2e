use Rattle.std.proofs.Common.{ℕ, ◌<◌}
use Rattle.named_steps.specs.declared.goal.Goal.TheVariants.{OnlyPlace}
use Rattle.step_chains.specs.Inner.Goals.{IsOpenShown}
use Rattle.step_chains.proofs.goals.shown_on_line.Given as goal

abbrev pub invariant-loop-index : goal.invariant-loop-index
invariant-loop-index l = (j value : ℕ) → j < l.index → IsOpenShown l.grid l.candidates (OnlyPlace l.line j value) → ⊥

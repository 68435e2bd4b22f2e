use Rattle.std.proofs.Common.{ℕ, ◌<◌}
use Rattle.named_steps.specs.declared.goal.Goal.TheVariants.{OnlyPlace}
use Rattle.step_chains.specs.Inner.Goals.{IsOpenShown}
use Rattle.step_chains.proofs.goals.shown_in_place.Given as goal

abbrev pub invariant-loop-value : goal.invariant-loop-value
invariant-loop-value l = (v : ℕ) → v < l.value → IsOpenShown l.grid l.candidates (OnlyPlace l.line l.index v) → ⊥

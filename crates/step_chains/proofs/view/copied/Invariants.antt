use Rattle.std.proofs.Common.{◌≡◌, ℕ, ◌<◌}
use Rattle.line_steps.specs.Left.{all_of}
use Rattle.line_steps.specs.Takes.{Takes}
use Rattle.step_chains.specs.Inner.Views.{IsGone}
use Rattle.step_chains.proofs.view.copied.Given as goal

abbrev pub invariant-loop-cell : goal.invariant-loop-cell
invariant-loop-cell l = Takes (λ cell v. (j : ℕ) × (j < l.cell) × (cell ≡ j) × IsGone l.view j v) (all_of l.view.size) l.candidates

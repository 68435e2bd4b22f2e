use Rattle.std.proofs.Common.{◌≡◌, ℕ, ◌<◌}
use Rattle.line_steps.specs.Left.{all_of}
use Rattle.line_steps.specs.Takes.{Takes}
use Rattle.step_chains.specs.Inner.Views.{IsHidden}
use Rattle.step_chains.proofs.view.view_on.Given as goal

abbrev pub invariant-loop-square : goal.invariant-loop-square
invariant-loop-square l = Takes (λ cell v. (j : ℕ) × (j < l.square) × (cell ≡ j) × IsHidden l.board j v) (all_of l.board.size) l.candidates

use Rattle.trail_solver.proofs.FilledGrids.{FilledSoFar}
use Rattle.named_steps.proofs.following.filled.Given as goal

abbrev pub invariant-loop-cell : goal.invariant-loop-cell
invariant-loop-cell l = FilledSoFar l.candidates l.grid l.cell

use Rattle.trail_solver.proofs.GridCandidates.{AreOfGridBelow}
use Rattle.trail_solver.proofs.completions.grid_candidates.Given as goal

abbrev pub invariant-loop-cell : goal.invariant-loop-cell
invariant-loop-cell l = AreOfGridBelow l.grid l.candidates l.cell

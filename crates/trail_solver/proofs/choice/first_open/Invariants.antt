use Rattle.trail_solver.proofs.SettledSquares.{AreSettledBelow}
use Rattle.trail_solver.proofs.choice.first_open.Given as goal

abbrev pub invariant-loop-cell : goal.invariant-loop-cell
invariant-loop-cell l = AreSettledBelow l.candidates l.cell

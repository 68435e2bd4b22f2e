use Rattle.trail_solver.proofs.CrowdSteps.{StrikesRights}
use Rattle.trail_solver.proofs.crowds.strike_rights.Given as goal

abbrev pub invariant-loop-right : goal.invariant-loop-right
invariant-loop-right l = StrikesRights l.initial.candidates l.candidates l.pairing l.left l.rights

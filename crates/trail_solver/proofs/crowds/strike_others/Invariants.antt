use Rattle.std.proofs.Common.{true}
use Rattle.trail_solver.specs.Inner.Pairings.{NarrowsLatin}
use Rattle.trail_solver.proofs.crowds.strike_others.Given as goal

abbrev pub invariant-loop-left : goal.invariant-loop-left
invariant-loop-left l = NarrowsLatin l.initial.candidates l.candidates true

use Rattle.std.proofs.Common.{true}
use Rattle.trail_solver.specs.Inner.Pairings.{NarrowsLatin}
use Rattle.trail_solver.proofs.crowds.narrow_by_values.Given as goal

abbrev pub invariant-loop-value : goal.invariant-loop-value
invariant-loop-value l = NarrowsLatin l.initial.candidates l.candidates true

use Rattle.std.proofs.Common.{true}
use Rattle.trail_solver.specs.Inner.Pairings.{NarrowsLatin}
use Rattle.trail_solver.proofs.crowds.narrow_by_lines.Given as goal

abbrev pub invariant-loop-line : goal.invariant-loop-line
invariant-loop-line l = NarrowsLatin l.initial.candidates l.candidates true

use Rattle.std.proofs.Common.{true}
use Rattle.trail_solver.specs.Inner.Pairings.{Covers, NarrowsLatin}
use Rattle.trail_solver.proofs.crowds.narrow_by_pairing.Given as goal

abbrev pub invariant-loop-left : goal.invariant-loop-left
invariant-loop-left l = NarrowsLatin l.initial.candidates l.candidates true × Covers l.candidates l.pairing l.sides

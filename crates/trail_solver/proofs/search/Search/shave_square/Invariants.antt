use Rattle.std.proofs.Common.{true}
use Rattle.trail_solver.specs.Inner.Searches.{NarrowsSearch}
use Rattle.trail_solver.proofs.search.Search.shave_square.Given as goal

abbrev pub invariant-loop-value : goal.invariant-loop-value
invariant-loop-value g l = NarrowsSearch g.P.Rules.puzzle l.initial.self l.self true

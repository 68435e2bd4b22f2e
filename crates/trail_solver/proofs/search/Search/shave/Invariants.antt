use Rattle.std.proofs.Common.{true}
use Rattle.trail_solver.specs.Inner.Searches.{NarrowsSearch}
use Rattle.trail_solver.proofs.search.Search.shave.Given as goal

abbrev pub invariant-loop-cell : goal.invariant-loop-cell
invariant-loop-cell g l = NarrowsSearch g.P.Rules.puzzle l.initial.self l.self true

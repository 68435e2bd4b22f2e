use Rattle.std.proofs.Common.{◌+◌, ◌-◌, ◌*◌, length}
use Rattle.trail_solver.specs.declared.trail.TheConstants.{PAIRS}
use Rattle.trail_solver.proofs.SearchSteps.{IsUnderWay}
use Rattle.trail_solver.proofs.search.Search.+search.Given as goal

abbrev pub decreases-guess : goal.decreases-guess
decreases-guess g l = 2 * (PAIRS - length l.self.now.candidates.trail)

abbrev pub decreases-run : goal.decreases-run
decreases-run g l = 2 * (PAIRS - length l.self.now.candidates.trail) + 1

abbrev pub decreases-run-loop-limit : goal.decreases-run-loop-limit
decreases-run-loop-limit g l = PAIRS - length l.self.candidates.trail

-- what is left to do
abbrev pub invariant-run-loop-limit : goal.invariant-run-loop-limit
invariant-run-loop-limit g l = IsUnderWay g.P.Rules.puzzle l.initial.self l.self l.initial.found l.found

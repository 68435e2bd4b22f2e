use Rattle.std.proofs.Common.{◌≡◌, ◌+◌, ◌-◌, ◌*◌, length}
use Rattle.trail_solver.specs.declared.trail.TheConstants.{PAIRS}
use Rattle.trail_solver.specs.Inner.Listed.{Lists}
use Rattle.trail_solver.specs.Inner.Among.{IsAmongBelow}
use Rattle.trail_solver.proofs.listing.Listing.+listing.Given as goal

abbrev pub decreases-list_guess : goal.decreases-list_guess
decreases-list_guess g l = 3 * (PAIRS - length l.self.now.search.candidates.trail)

abbrev pub decreases-list_values : goal.decreases-list_values
decreases-list_values g l = 3 * (PAIRS - length l.self.now.search.candidates.trail) + 1

abbrev pub decreases-list : goal.decreases-list
decreases-list g l = 3 * (PAIRS - length l.self.now.search.candidates.trail) + 2

-- the solutions with a smaller value in the cell are listed
abbrev pub invariant-list_values-loop-value : goal.invariant-list_values-loop-value
invariant-list_values-loop-value g l =
    let first = l.initial.self in
    record {
      search : l.self.search ≡ first.search;
      limit : l.self.limit ≡ first.limit;
      lists : Lists (IsAmongBelow (g.P.Rules.puzzle first.search.rules) first.search.candidates l.cell l.value) first.limit first.listed.items l.self.listed.items;
    }

use Rattle.std.proofs.Common.{◌≡◌, ℕ, ◌<◌, true, slice_index}
use Rattle.number_sets.specs.Sets.{has_number}
use Rattle.trail_solver.proofs.crowds.rights_of.Given as goal

abbrev pub invariant-loop-left : goal.invariant-loop-left
invariant-loop-left l =
    (k right : ℕ) → k < l.left → has_number l.crowd k ≡ true → has_number (slice_index l.sides k) right ≡ true → has_number l.rights right ≡ true

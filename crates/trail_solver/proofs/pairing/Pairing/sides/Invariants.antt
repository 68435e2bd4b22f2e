use Rattle.std.proofs.Common.{◌≡◌, ℕ, ◌<◌, true, length, slice_index}
use Rattle.number_sets.specs.Sets.{has_number}
use Rattle.trail_solver.specs.Inner.Pairings.{MayPair}
use Rattle.trail_solver.proofs.pairing.Pairing.sides.Given as goal

abbrev pub invariant-loop-left : goal.invariant-loop-left
invariant-loop-left l =
    (length l.sides ≡ 16) × ((k right : ℕ) → k < l.left → right < l.candidates.size → MayPair l.candidates l.self k right → has_number (slice_index l.sides k) right ≡ true)

use Rattle.std.proofs.Common.{◌≡◌, ℕ, ◌<◌, length, slice_index}
use Rattle.shown_counts.specs.Inner.Lone.{IsWithout}
use Rattle.shown_counts.proofs.lone_numbers.without_lone.Given as goal

abbrev pub invariant-loop-k : goal.invariant-loop-k
invariant-loop-k l = (length l.rest ≡ 9) × ((j : ℕ) → j < l.k → IsWithout (slice_index l.row j) l.lone (slice_index l.rest j))

use Rattle.std.proofs.Common.{◌≡◌, ◌<◌, ℕ, true, slice_index}
use Rattle.number_sets.specs.Sets.{has_number}
use Rattle.shown_counts.proofs.possible_counts.union_of.Given as goal

abbrev pub invariant-loop-k : goal.invariant-loop-k
invariant-loop-k l = (k count : ℕ) → k < l.k → has_number (slice_index l.starts k) count ≡ true → has_number l.counts count ≡ true

use Rattle.std.proofs.Common.{◌≡◌, ◌↔◌, ℕ, ◌<◌, true, slice_index, count_ones}
use Rattle.number_sets.specs.Sets.{has_number}
use Rattle.line_steps.proofs.steps.group_passes.open_places.Given as goal

abbrev pub invariant-loop-k : goal.invariant-loop-k
invariant-loop-k l = (j : ℕ) → (has_number l.open j ≡ true) ↔ ((j < l.k) × (1 < count_ones (slice_index l.sets j)))

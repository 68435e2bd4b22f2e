use Rattle.std.proofs.Common.{◌≡◌, ◌↔◌, ℕ, ◌<◌, true, slice_index}
use Rattle.number_sets.specs.Sets.{has_number}
use Rattle.line_steps.proofs.steps.group_passes.values_of.Given as goal

abbrev pub invariant-loop-k : goal.invariant-loop-k
invariant-loop-k l = (v : ℕ) → (has_number l.values v ≡ true)
    ↔ ((j : ℕ) × (j < l.k) × (has_number l.squares j ≡ true) × (has_number (slice_index l.sets j) v ≡ true))

use Rattle.std.proofs.Common.{◌≡◌, ◌↔◌, ℕ, ◌<◌, ◌≤◌, true, length, slice_index}
use Rattle.number_sets.specs.Sets.{has_number}
use Rattle.line_steps.proofs.lines.latin.sets_at.Given as goal

abbrev pub invariant-loop-k : goal.invariant-loop-k
invariant-loop-k l =
    (length l.sets ≡ 9)
    × ((j v : ℕ) → j < l.k → (has_number (slice_index l.sets j) v ≡ true)
    ↔ ((has_number l.places j ≡ true) × (has_number (slice_index l.initial.sets j) v ≡ true)))
    × ((j : ℕ) → l.k ≤ j → slice_index l.sets j ≡ slice_index l.initial.sets j)

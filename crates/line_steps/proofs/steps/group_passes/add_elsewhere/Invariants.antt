use Rattle.std.proofs.Common.{◌≡◌, ◌↔◌, ℕ, ◌<◌, ◌≤◌, ◌⊎◌, true, false, length, slice_index}
use Rattle.number_sets.specs.Sets.{has_number}
use Rattle.line_steps.proofs.steps.group_passes.add_elsewhere.Given as goal

abbrev pub invariant-loop-k : goal.invariant-loop-k
invariant-loop-k l =
    (length l.struck ≡ 9)
    × ((j v : ℕ) → j < l.k → (has_number (slice_index l.struck j) v ≡ true)
    ↔ ((has_number (slice_index l.fn.struck j) v ≡ true) ⊎ ((has_number l.squares j ≡ false) × (has_number l.values v ≡ true))))
    × ((j : ℕ) → l.k ≤ j → slice_index l.struck j ≡ slice_index l.fn.struck j)

use Rattle.std.proofs.Common.{◌≡◌, ◌↔◌, ℕ, ◌<◌, true, slice_index}
use Rattle.number_sets.specs.Sets.{has_number}
use Rattle.line_steps.specs.Inner.Groups.{IsStruckBelow}
use Rattle.line_steps.proofs.steps.group_passes.struck_by_groups.Given as goal

abbrev pub invariant-loop-bits : goal.invariant-loop-bits
invariant-loop-bits l = (k v : ℕ) → k < 9 → (has_number (slice_index l.struck k) v ≡ true) ↔ IsStruckBelow l.sets l.several l.bits k v

use Rattle.std.proofs.Common.{◌≡◌, ◌↔◌, ℕ, ◌<◌, ◌≤◌, true, false}
use Rattle.number_sets.specs.Sets.{has_number}
use Rattle.step_chains.proofs.view.left_out.Given as goal

abbrev pub invariant-loop-value : goal.invariant-loop-value
invariant-loop-value l = (v : ℕ) → (has_number l.out v ≡ true) ↔ ((1 ≤ v) × (v < l.value) × (has_number l.marks v ≡ false))

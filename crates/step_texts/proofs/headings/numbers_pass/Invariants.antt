use Rattle.std.proofs.Common.{◌≡◌, ℕ, ◌<◌, ◌≤◌, true, ◌||◌, not}
use Rattle.std.specs.Prelude.{slice_index}
use Rattle.number_sets.specs.Sets.{has_number}
use Rattle.step_texts.specs.Headings.{are_beside}
use Rattle.step_texts.proofs.headings.numbers_pass.Given as goal

abbrev pub invariant-loop-number : goal.invariant-loop-number
invariant-loop-number l =
    (k : ℕ) → 1 ≤ k → k < l.number → (not (has_number l.values k) || are_beside l.beside l.clue (slice_index l.shows k)) ≡ true

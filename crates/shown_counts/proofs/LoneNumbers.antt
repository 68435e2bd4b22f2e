-- A row has the same fillings without the numbers that stand alone in another of its squares.
use Rattle.std.proofs.Common.{◌≡◌, ◌↔◌, ℕ, ◌<◌, ◌≤◌, List, length, take, slice_index, ◌∙◌, arith}
use Rattle.std.proofs.lemmas.Bool.{cases_eq, cases_lt, true_from_ne_false}
use Rattle.std.proofs.lemmas.List.{length-take-le}
use Rattle.number_sets.specs.Sets.{has_number, IsSingle}
use Rattle.tower_lines.specs.LineFillings.{IsFilling}
use Rattle.shown_counts.specs.Inner.Lone.{AreLone, IsWithout}
use Rattle.shown_counts.proofs.CountLemmas.{filled_has, filling_by}

-- a number of a filling that is the only one of some square stands there
only_there : (w : ℕ) (row : List ℕ) (clue : ℕ) (line : List ℕ) (k j : ℕ) → w ≤ length row → k < w → j < w → IsFilling (take w row) clue line
    → IsSingle (slice_index row j) (slice_index line k) → IsSingle (slice_index row k) (slice_index line k)
only_there w row clue line k j inside low other_low f single =
    let long : length line ≡ w = f.whole ∙ length-take-le w row inside in
    let same : slice_index line j ≡ slice_index line k = single.alone (slice_index line j) (filled_has w row clue line j inside other_low f) in
    grind (arith, cases_eq, cases_lt)

-- the row without the numbers that stand alone elsewhere has the same fillings
pub same_fillings : (w : ℕ) (row rest : List ℕ) (lone clue : ℕ) (line : List ℕ) → w ≤ length row → w ≤ length rest → AreLone w row lone
    → ((k : ℕ) → k < w → IsWithout (slice_index row k) lone (slice_index rest k)) → IsFilling (take w row) clue line ↔ IsFilling (take w rest) clue line
same_fillings w row rest lone clue line inside rest_inside are without = (
  λ f. filling_by w row rest clue line inside rest_inside
      (λ k low has. true_from_ne_false (has_number (slice_index rest k) (slice_index line k)) (λ gone.
      let taken = (without k low).taken (slice_index line k) has gone in
      let alone = are (slice_index line k) taken.0 in
      taken.1 (only_there w row clue line k alone.0 inside low alone.1 f alone.2)))
      f,
  λ f. filling_by w rest row clue line rest_inside inside (λ k low has. (without k low).fewer (slice_index line k) has) f,
)

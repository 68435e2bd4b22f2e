-- A value is in no filling from a place exactly where the sets of what may stand there don't support it.
use Rattle.std.proofs.lemmas.Bool.Decides.{nat_tests}
use Rattle.std.proofs.Common.{◌≡◌, ◌↔◌, ℕ, ◌*◌, ◌<◌, ◌≤◌, true, false, List, length, take, slice_index, sym, ap, ◌∙◌, arith, Bool}
use Rattle.std.proofs.lemmas.Bool.{both_ways, false_from_ne_true, true_from_ne_false}
use Rattle.std.proofs.lemmas.List.{get_or-take, length-take-le}
use Rattle.number_sets.specs.Sets.{has_number, IsEmpty}
use Rattle.trail_solver.specs.Pairs.{IsPair}
use Rattle.tower_lines.specs.LineFillings.{IsFilling, IsSupported}
use Rattle.line_steps.specs.Views.{view_cell}
use Rattle.line_steps.specs.Laws.LineSquares.{view_cell_once}
use Rattle.towers_game.specs.Fillings.{IsFillingFrom, IsUnfilled}
use Rattle.towers_game.specs.Rows.{AreMaySets}
use Rattle.towers_game.specs.Inner.RowSets.{AreWithin, IsBeyond}
use Rattle.std.specs.Bool.{MatchBool}

-- the sets of a line's squares, as a row of its length
record IsRow (w : ℕ) (May : ℕ → ℕ → Type 0) (place : ℕ) (row : List ℕ) : Type 0 where
  count : length row ≡ w
  each : (k v : ℕ) → k < w → (has_number (slice_index row k) v ≡ true) ↔ (IsPair w (view_cell w place k) v × May (view_cell w place k) v)

-- the first w sets of what may stand are a row of the line's squares
row_of_sets : (w : ℕ) (May : ℕ → ℕ → Type 0) (place : ℕ) (sets : List ℕ) → w ≤ 9 → AreMaySets w May place w sets → IsRow w May place (take w sets)
row_of_sets w May place sets small h = grind (arith, nat_tests, length-take-le, get_or-take)

-- a filling by what may stand is a filling of the row
to_sets : (w : ℕ) (May : ℕ → ℕ → Type 0) (place clue : ℕ) (row line : List ℕ) → IsRow w May place row → IsFillingFrom w May place clue line
    → IsFilling row clue line
to_sets w May place clue row line r f = grind (arith, nat_tests)

-- a filling of the row is a filling by what may stand
from_sets : (w : ℕ) (May : ℕ → ℕ → Type 0) (place clue : ℕ) (row line : List ℕ) → IsRow w May place row → IsFilling row clue line
    → IsFillingFrom w May place clue line
from_sets w May place clue row line r f =
    let whole : length line ≡ w = f.whole ∙ r.count in
    let there : (k : ℕ) → k < w → IsPair w (view_cell w place k) (slice_index line k) × May (view_cell w place k) (slice_index line k) =
    λ k low. (r.each k (slice_index line k) low).0 (f.start.candidates k (omega (arith, whole, low))) in
    record {
      whole = whole;
      pairs = λ k low. (there k low).0;
      may = λ k low. (there k low).1;
      apart = λ i j before low. f.start.apart i j before (omega (arith, whole, low));
      shown = f.shown;
    }

-- a value is supported in the k-th square exactly if some filling from the place has it there
pub filled_supported : (w : ℕ) (May : ℕ → ℕ → Type 0) (place clue k v : ℕ) (sets : List ℕ) → w ≤ 9 → k < w → AreMaySets w May place w sets
    → IsSupported (take w sets) clue k v ↔ ((line : List ℕ) × IsFillingFrom w May place clue line × (slice_index line k ≡ v))
filled_supported w May place clue k v sets small low are =
    let r = row_of_sets w May place sets small are in (
      λ s. (s.line, from_sets w May place clue (take w sets) s.line r s.filling, s.here),
      λ h. record {
        line = h.0;
        filling = to_sets w May place clue (take w sets) h.0 r h.1;
        inside = omega (arith, r.count, low);
        here = h.2;
      },
    )

-- a value isn't kept in the k-th square exactly if no filling from the place has it there
pub unfilled_tested : (w : ℕ) (May : ℕ → ℕ → Type 0) (place clue cell k v : ℕ) (sets kept : List ℕ) → w ≤ 9 → place < 4 * w → k < w
    → view_cell w place k ≡ cell → AreMaySets w May place w sets
    → ((place value : ℕ) → (has_number (slice_index kept place) value ≡ true) ↔ IsSupported (take w sets) clue place value)
    → (has_number (slice_index kept k) v ≡ false) ↔ IsUnfilled w May place clue cell v
unfilled_tested w May place clue cell k v sets kept small place_in low here are is =
    let r = row_of_sets w May place sets small are in (
      λ gone. record {
        index = k;
        inside = low;
        here = here;
        none = λ line f same. both_ways (has_number (slice_index kept k) v) gone ((is k v).1 (record {
          line = line;
          filling = to_sets w May place clue (take w sets) line r f;
          inside = omega (arith, r.count, low);
          here = same;
        }));
      },
      λ h. false_from_ne_true (has_number (slice_index kept k) v) (λ stays.
          let s = (is k v).0 stays in
          let one : h.index ≡ k = view_cell_once w place h.index k place_in h.inside low (h.here ∙ sym here) in
          h.none s.line (from_sets w May place clue (take w sets) s.line r s.filling) (ap (slice_index s.line) one ∙ s.here)),
    )

-- each set of a row is within that of another exactly if there is no number beyond
pub within_test : (result : Bool) (some all : List ℕ) (beyond : ℕ) → ((n : ℕ) → (has_number beyond n ≡ true) ↔ IsBeyond 9 some all n)
    → MatchBool result (IsEmpty beyond) ((n : ℕ) × (has_number beyond n ≡ true)) → MatchBool result (AreWithin some all) (AreWithin some all → ⊥)
within_test result some all beyond is none = grind (arith, nat_tests, true_from_ne_false)

-- Rows of sets, as the contracts of private functions have them.
use Rattle.std.specs.Prelude.{◌≡◌, ℕ, ◌<◌, List, length, slice_index, ◌↔◌, ◌≤◌, true, ◌&&◌, nat_le, not, false, take}
use Rattle.number_sets.specs.Sets.{has_number, IsEmpty, IsSubset}
use Rattle.line_steps.specs.Views.{view_index}
use Rattle.tower_lines.specs.LineFillings.{IsSupported}
use Rattle.line_steps.specs.Inner.LineSets.{IsStandingSet}

-- each of the first n sets has all these values, and the others are empty
pub record AreFull (all n : ℕ) (row : List ℕ) : Type 0 where
  pub count : length row ≡ 9
  pub each : (k : ℕ) → k < n → slice_index row k ≡ all
  pub rest : (k : ℕ) → n ≤ k → IsEmpty (slice_index row k)

-- each of the first n sets of a row has what may stand in its square, if only lone values are seen
pub record AreStandingSets (all : ℕ) (left : List ℕ) (n : ℕ) (row : List ℕ) : Type 0 where
  pub count : length row ≡ 9
  pub each : (k : ℕ) → k < n → IsStandingSet all (slice_index left k) (slice_index row k)

-- each of the first n sets of the row has the values of the size that the kept set in its place lacks
pub record AreMissing (w : ℕ) (kept : List ℕ) (n : ℕ) (row : List ℕ) : Type 0 where
  pub count : length row ≡ 9
  pub each : (k v : ℕ) → k < n
      → has_number (slice_index row k) v ≡ ((nat_le 1 v && nat_le v w) && not (has_number (slice_index kept k) v))

-- the first n sets are those of the row from a place, in the order of the line's squares
pub record IsAlong (w place : ℕ) (row : List ℕ) (n : ℕ) (along : List ℕ) : Type 0 where
  pub count : length along ≡ 9
  pub each : (k : ℕ) → k < n → slice_index along k ≡ slice_index row (view_index w place k)

-- each set has just the values that the fillings of a row have in its place
abbrev pub AreKept : List ℕ → ℕ → List ℕ → Type 0
AreKept row clue kept =
    (place value : ℕ) → (has_number (slice_index kept place) value ≡ true) ↔ IsSupported row clue place value

-- each set of the first row is within that of the second
abbrev pub AreWithin : List ℕ → List ℕ → Type 0
AreWithin some all = (k : ℕ) → k < 9 → IsSubset (slice_index some k) (slice_index all k)

-- the number is in one of the first n sets of the first row, and not in that of the second
pub record IsBeyond (n : ℕ) (some all : List ℕ) (number : ℕ) : Type 0 where
  pub place : ℕ
  pub inside : place < n
  pub has : has_number (slice_index some place) number ≡ true
  pub lacks : has_number (slice_index all place) number ≡ false

-- each value that is kept of one of the first w sets stands in its place in some filling
abbrev pub AreSupported : ℕ → ℕ → List ℕ → List ℕ → Type 0
AreSupported w clue sets kept =
    (k v : ℕ) → k < w → has_number (slice_index kept k) v ≡ true → IsSupported (take w sets) clue k v

-- the values of the first w sets are from 1 to w
abbrev pub HoldValuesTo : ℕ → List ℕ → Type 0
HoldValuesTo w sets = (k v : ℕ) → k < w → has_number (slice_index sets k) v ≡ true → (1 ≤ v) × (v ≤ w)

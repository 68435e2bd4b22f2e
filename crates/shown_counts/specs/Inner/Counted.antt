-- The findings on the fillings of a row.
use Rattle.std.specs.Prelude.{◌≡◌, ◌≢◌, ◌↔◌, ℕ, ◌<◌, ◌≤◌, true, List, length, slice_index, ◌==◌}
use Rattle.number_sets.specs.Sets.{has_number}
use Rattle.tower_lines.specs.LineFillings.{IsFilling, IsSupported}

-- the second row is the first with the value alone at the place
pub record HasAlone (row : List ℕ) (place value : ℕ) (alone : List ℕ) : Type 0 where
  pub count : length alone ≡ 9
  pub before : length row ≡ 9
  pub here : (v : ℕ) → has_number (slice_index alone place) v ≡ (v == value)
  pub others : (k : ℕ) → k ≢ place → slice_index alone k ≡ slice_index row k

-- some filling shows the count
abbrev pub IsFilled : List ℕ → ℕ → Type 0
IsFilled sets count = (line : List ℕ) × IsFilling sets count line

-- the set has just those counts from 1 on and below n that are so
abbrev pub AreCounts : (ℕ → Type 0) → ℕ → ℕ → Type 0
AreCounts IsSo n counts =
    (count : ℕ) → (has_number counts count ≡ true) ↔ ((1 ≤ count) × (count < n) × IsSo count)

-- for each of the values below n, the set at its index has the counts of the fillings with it at the place
abbrev pub AreCountsBelow : List ℕ → ℕ → ℕ → ℕ → List ℕ → Type 0
AreCountsBelow sets place values n shows =
    (v count : ℕ) → v < n → has_number values v ≡ true
    → (has_number (slice_index shows v) count ≡ true) ↔ IsSupported sets count place v

-- for each of the values, the set at its index has the counts of the fillings with it at the place
abbrev pub AreCountsOf : List ℕ → ℕ → ℕ → List ℕ → Type 0
AreCountsOf sets place values shows =
    (v count : ℕ) → has_number values v ≡ true
    → (has_number (slice_index shows v) count ≡ true) ↔ IsSupported sets count place v

-- The findings on rows of sets, a row a slot.
use Rattle.std.specs.Prelude.{◌≡◌, ◌≢◌, ℕ, ◌<◌, ◌≤◌, true, false, [], List, length, take, slice_index, slice_index_or}
use Rattle.number_sets.specs.Sets.{has_number, IsSubset, IsSingle}
use Rattle.towers_game.specs.declared.towers.row_cache.TheConstants.{SLOTS}
use Rattle.towers_game.specs.Inner.RowSets.{AreKept}

-- kept has the values that fillings with the clue have of the first sets, as many as the width
pub record IsCached (width clue : ℕ) (sets kept : List ℕ) : Type 0 where
  pub room : width ≤ length sets
  pub stays : AreKept (take width sets) clue kept

-- each slot has a width, a clue, a row's sets, and the values that are kept of these
pub record AreCached (widths clues : List ℕ) (sets kept : List (List ℕ)) : Type 0 where
  pub each : (slot : ℕ) → slot < SLOTS
      → IsCached (slice_index widths slot) (slice_index clues slot) (slice_index_or sets slot [])
      (slice_index_or kept slot [])

-- the number is the only one of some of the row's first sets
pub record IsLone (width : ℕ) (sets : List ℕ) (number : ℕ) : Type 0 where
  pub place : ℕ
  pub inside : place < width
  pub single : IsSingle (slice_index sets place) number

-- the set without some of these numbers, but never without its only one
pub record IsWithout (set numbers rest : ℕ) : Type 0 where
  pub fewer : IsSubset rest set
  pub taken : (number : ℕ) → has_number set number ≡ true → has_number rest number ≡ false
      → (has_number numbers number ≡ true) × (IsSingle set number → ⊥)

-- the numbers of the k-th set but for some, each of them the only one of another set
pub record IsReducedSet (width : ℕ) (sets : List ℕ) (k rest : ℕ) : Type 0 where
  pub fewer : IsSubset rest (slice_index sets k)
  pub taken : (number : ℕ) → has_number (slice_index sets k) number ≡ true → has_number rest number ≡ false
      → (j : ℕ) × (j < width) × (j ≢ k) × IsSingle (slice_index sets j) number

-- each set of the row is that of the sets but for some numbers, each of them the only one of another set
pub record IsReduced (width : ℕ) (sets row : List ℕ) : Type 0 where
  pub count : length row ≡ length sets
  pub each : (k : ℕ) → k < width → IsReducedSet width sets k (slice_index row k)

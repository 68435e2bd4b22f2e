-- The counts of starts, by the height from which on a next tower is seen.
use Rattle.std.specs.Prelude.{◌≡◌, ℕ, ◌+◌, ◌<◌, ◌≤◌, true, List, length, slice_index}
use Rattle.number_sets.specs.Sets.{has_number}

-- the second starts are those of the first with a number of the set more, which is hidden, or seen and counted,
-- as far as their tallest tower then has this height at least
pub record IsOneLonger (low set : ℕ) (starts longer : List ℕ) : Type 0 where
  pub room : length longer ≡ 11
  pub hidden : (least count height : ℕ) → low < least → least ≤ 10 → height < least
      → has_number set height ≡ true
      → has_number (slice_index starts least) count ≡ true → has_number (slice_index longer least) count ≡ true
  pub seen : (least count height : ℕ) → least ≤ height → low ≤ height → height ≤ 9 → count < 15
      → has_number set height ≡ true
      → has_number (slice_index starts least) count ≡ true
      → has_number (slice_index longer (height + 1)) (count + 1) ≡ true

-- the second starts are one longer up to height n, and the starts below height n have no counts but these
pub record IsLongerBelow (n low set : ℕ) (starts : List ℕ) (counts : ℕ) (longer : List ℕ) : Type 0 where
  pub room : length longer ≡ 11
  pub below : (least count : ℕ) → least < n → has_number (slice_index starts least) count ≡ true
      → has_number counts count ≡ true
  pub hidden : (least count height : ℕ) → low < least → least ≤ n → height < least
      → has_number set height ≡ true
      → has_number (slice_index starts least) count ≡ true → has_number (slice_index longer least) count ≡ true
  pub seen : (least count height : ℕ) → least ≤ height → low ≤ height → height < n → count < 15
      → has_number set height ≡ true
      → has_number (slice_index starts least) count ≡ true
      → has_number (slice_index longer (height + 1)) (count + 1) ≡ true

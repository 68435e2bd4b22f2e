-- Numbers that stand alone in squares of a row, and sets without them.
use Rattle.std.specs.Prelude.{◌≡◌, ℕ, ◌<◌, true, false, List, slice_index}
use Rattle.number_sets.specs.Sets.{has_number, IsSubset, IsSingle}

-- each of the numbers is the only one of some of the row's first sets
abbrev pub AreLone : ℕ → List ℕ → ℕ → Type 0
AreLone width row numbers =
    (number : ℕ) → has_number numbers number ≡ true
    → (k : ℕ) × (k < width) × IsSingle (slice_index row k) number

-- the set without some of these numbers, but never without its only one
pub record IsWithout (set numbers rest : ℕ) : Type 0 where
  pub fewer : IsSubset rest set
  pub taken : (number : ℕ) → has_number set number ≡ true → has_number rest number ≡ false
      → (has_number numbers number ≡ true) × (IsSingle set number → ⊥)

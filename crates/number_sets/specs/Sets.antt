-- Sets of small numbers, each as the number whose bit n is set where n is in the set. All that a set says is said by
-- `has_number`.
use Rattle.std.specs.Prelude.{◌≡◌, ℕ, ◌+◌, ◌-◌, ◌^◌, ◌≤◌, Bool, true, false, ◌==◌, bit_xor}
use Rattle.std.specs.Int.{bit_at}

-- whether the set has the number
abbrev pub has_number : ℕ → ℕ → Bool
has_number set n = bit_at set n == 1

-- the set that has no number
abbrev pub no_numbers : ℕ
no_numbers = 0

-- the set of the numbers from 1 to w
abbrev pub numbers_to : ℕ → ℕ
numbers_to w = 2 ^ (w + 1) - 2

-- the set with n taken out where it was in, and put in where it was not
abbrev pub flip_number : ℕ → ℕ → ℕ
flip_number set n = bit_xor set (2 ^ n)

-- no number is in the set
abbrev pub IsEmpty : ℕ → Type 0
IsEmpty set = (n : ℕ) → has_number set n ≡ false

-- some number is in both sets
abbrev pub IsShared : ℕ → ℕ → Type 0
IsShared a b = (n : ℕ) × (has_number a n ≡ true) × (has_number b n ≡ true)

-- each number of the first set is in the second
abbrev pub IsSubset : ℕ → ℕ → Type 0
IsSubset a b = (n : ℕ) → has_number a n ≡ true → has_number b n ≡ true

-- the number is the set's only one
pub record IsSingle (set number : ℕ) : Type 0 where
  pub has : has_number set number ≡ true
  pub alone : (n : ℕ) → has_number set n ≡ true → n ≡ number

-- the number is the set's least
pub record IsLeast (set number : ℕ) : Type 0 where
  pub has : has_number set number ≡ true
  pub least : (n : ℕ) → has_number set n ≡ true → number ≤ n

-- the number is the set's greatest
pub record IsGreatest (set number : ℕ) : Type 0 where
  pub has : has_number set number ≡ true
  pub greatest : (n : ℕ) → has_number set n ≡ true → n ≤ number

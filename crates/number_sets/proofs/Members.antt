-- The members of sets: of the empty one, of that of one number, of those that the calls make, and of a
-- number's bits shifted.
use Rattle.std.proofs.lemmas.Bool.Decides.{nat_tests}
use Rattle.std.proofs.Common.{◌≡◌, ◌≢◌, ℕ, zero, suc, ◌+◌, ◌-◌, ◌*◌, ◌/◌, ◌%◌, ◌^◌, ◌<◌, ◌≤◌, inl, inr, Bool, true, false, not, ◌&&◌, ◌||◌, eqb, leb, ltb, cond, refl, sym, ap, ◌∙◌, subst, arith, add-one, bit_and, bit_or, w16}
use Rattle.std.specs.Int.{bit_at, bit_not, trailing_zeros}
use Rattle.std.specs.Bool.{MatchBool}
use Rattle.std.proofs.lemmas.Bool.{eqb-true, eq-eqb, ne_eqb, cases_eq, cases_Bool, cases_lt, le-leb, lt-leb, lt-ltb, le-ltb, both_ways, false_from_ne_true, and_parts, and_from}
use Rattle.std.proofs.lemmas.Nat.{pow_pos, shr_split, shr-shr, mod_below, and_le_l}
use Rattle.std.proofs.lemmas.Nat.Bits.{bit_at_lowest, bit_at-suc, bit_at-zero, bit_at_and, bit_at_or, bit_at_xor, bit_at_not, bit_at_ones, bit_at_ones_above, bit_at-lt, bit_at-pow_same, bit_at-pow_other, bit_at_cat_low, bit_at_above, bit_at_mask_inside, bit_at_mask_below, bit_at_mask_above, bit_at-trailing_zeros, same_from_bits}
use Rattle.number_sets.specs.Sets.{has_number, flip_number, numbers_to, IsEmpty, IsShared, IsSubset}

-- ---- members and bits

-- the bit of a number that is in the set
pub bit-from_number : (m k : ℕ) → has_number m k ≡ true → bit_at m k ≡ 1
bit-from_number m k e = eqb-true (bit_at m k) 1 e

-- where the bit is set, the number is in the set
pub number-from_bit : (m k : ℕ) → bit_at m k ≡ 1 → has_number m k ≡ true
number-from_bit m k e = eq-eqb (bit_at m k) 1 e

-- the bit of a number that isn't in the set
pub bit-from_no_number : (m k : ℕ) → has_number m k ≡ false → bit_at m k ≡ 0
bit-from_no_number m k e = grind (arith, nat_tests, bit_at-lt, cases_eq, both_ways, number-from_bit)

-- where the bit isn't set, the number isn't in the set
pub no_number-from_bit : (m k : ℕ) → bit_at m k ≡ 0 → has_number m k ≡ false
no_number-from_bit m k e = ap (λ b. eqb b 1) e

-- where two sets have the same bit at two places, both have the numbers or neither
pub number-from_same_bit : (m j n k : ℕ) → bit_at m j ≡ bit_at n k → has_number m j ≡ has_number n k
number-from_same_bit m j n k e = ap (λ b. eqb b 1) e

-- the empty set has no number
pub has_number-none : (k : ℕ) → has_number 0 k ≡ false
has_number-none k = no_number-from_bit 0 k (bit_at-zero k)

-- a set has no number whose power of two is above it
pub has_number-above : (m k j : ℕ) → m < 2 ^ k → k ≤ j → has_number m j ≡ false
has_number-above m k j h l = no_number-from_bit m j (bit_at_above m k j h l)

-- each number of a set below 2 ^ k is below k
pub below_from_number : (m k j : ℕ) → m < 2 ^ k → has_number m j ≡ true → j < k
below_from_number m k j h e =
    elim (cases_lt j k) [ inl l ↦ l | inr l ↦ absurd (both_ways (has_number m j) (has_number-above m k j h l) e) ]

-- a number is in the union of two sets if it is in either
pub has_number-or : (a b k : ℕ) → has_number (bit_or a b) k ≡ (has_number a k || has_number b k)
has_number-or a b k = grind (arith, nat_tests, bit_at_or, cases_Bool, bit-from_number, bit_at-lt, number-from_bit, bit-from_no_number, number-from_same_bit)

-- a number is in what two sets share if it is in both
pub has_number-and : (a b k : ℕ) → has_number (bit_and a b) k ≡ (has_number a k && has_number b k)
has_number-and a b k = grind (arith, nat_tests, bit_at_and, cases_Bool, bit-from_number, bit_at-lt, number-from_same_bit, bit-from_no_number, no_number-from_bit)

-- sets that have the same numbers are the same
pub same_set : (a b : ℕ) → ((k : ℕ) → has_number a k ≡ has_number b k) → a ≡ b
same_set a b h =
    same_from_bits a b (λ k. elim (cases_Bool (has_number a k)) [
      | inl x ↦ bit-from_number a k x ∙ sym (bit-from_number b k (sym (h k) ∙ x))
      | inr x ↦ bit-from_no_number a k x ∙ sym (bit-from_no_number b k (sym (h k) ∙ x))
    ])

-- a set without a number is the empty one
pub none_from_numbers : (m : ℕ) → ((k : ℕ) → has_number m k ≡ false) → m ≡ 0
none_from_numbers m h = same_set m 0 (λ k. h k ∙ sym (has_number-none k))

-- a set moved down by k has what is k higher in it
pub has_number-shr : (m k j : ℕ) → has_number (m / 2 ^ k) j ≡ has_number m (k + j)
has_number-shr m k j = number-from_same_bit (m / 2 ^ k) j m (k + j) (ap (λ n. n % 2) (shr-shr m k j))

-- a set that has none from k on is below that power of two
pub below_from_numbers : (m k : ℕ) → ((j : ℕ) → k ≤ j → has_number m j ≡ false) → m < 2 ^ k
below_from_numbers m k h =
    let none : m / 2 ^ k ≡ 0 = none_from_numbers (m / 2 ^ k) (λ j. has_number-shr m k j ∙ h (k + j) (omega arith)) in
    let low : m % 2 ^ k < 2 ^ k = mod_below m (2 ^ k) (pow_pos k) in
    let e : 0 * 2 ^ k + m % 2 ^ k ≡ m = rw none at (shr_split m k) in
    omega arith

-- a set moved down by one has what is one higher in it
pub has_number-half : (m k : ℕ) → has_number (m / 2) k ≡ has_number m (k + 1)
has_number-half m k = number-from_same_bit (m / 2) k m (k + 1) (rw add-one (sym (bit_at-suc m k)))

-- a set moved up by one has what is one lower in it
pub has_number-double : (m k : ℕ) → has_number (m * 2) (k + 1) ≡ has_number m k
has_number-double m k = let e : m * 2 / 2 ≡ m = omega arith in sym (has_number-half (m * 2) k) ∙ ap (λ n. has_number n k) e

has_number-double_low : (m : ℕ) → has_number (m * 2) 0 ≡ false
has_number-double_low m = no_number-from_bit (m * 2) 0 (bit_at_lowest (m * 2) ∙ omega arith)

-- below w, a set has what its remainder has
pub has_number-mod : (m w k : ℕ) → k < w → has_number (m % 2 ^ w) k ≡ has_number m k
has_number-mod m w k h =
    number-from_same_bit (m % 2 ^ w) k m k
    (sym (bit_at_cat_low (m / 2 ^ w) w (m % 2 ^ w) k h) ∙ ap (λ n. bit_at n k) (shr_split m w))

-- the set of k alone has k
pub has_number-one_same : (k : ℕ) → has_number (2 ^ k) k ≡ true
has_number-one_same k = number-from_bit (2 ^ k) k (bit_at-pow_same k)

-- the set of k alone has no other number
pub number_of_one : (k j : ℕ) → has_number (2 ^ k) j ≡ true → j ≡ k
number_of_one k j e = grind (arith, nat_tests, cases_eq, both_ways, no_number-from_bit, bit_at-pow_other)

-- the set of n alone has just n, as a test
pub has_number-one : (n k : ℕ) → has_number (2 ^ n) k ≡ eqb k n
has_number-one n k = grind (arith, nat_tests, cases_eq, has_number-one_same, eq-eqb, false_from_ne_true, number_of_one, ne_eqb)

-- the power of two of a number is no more than the set
pub power_most : (m k : ℕ) → has_number m k ≡ true → 2 ^ k ≤ m
power_most m k e = grind (arith, nat_tests, cases_lt, below_from_number)

-- ---- the numbers of a range

-- `numbers_to w` has the numbers from 1 to w
pub has_number-numbers_to : (w n : ℕ) → has_number (numbers_to w) n ≡ (leb 1 n && leb n w)
has_number-numbers_to w n =
    elim (cases_lt n 1) [
      | inl low ↦ rw (bit_at_mask_below 1 (w + 1) n low, lt-leb 1 n low) refl
      | inr high ↦ elim (cases_lt w n) [
        | inl above ↦ rw (bit_at_mask_above 1 (w + 1) n (omega arith), le-leb 1 n high, lt-leb n w above) refl
        | inr within ↦ rw (bit_at_mask_inside 1 (w + 1) n high (omega arith), le-leb 1 n high, le-leb n w within) refl
      ]
    ]

-- 2 ^ k - 1 has the numbers below k
pub has_number-below : (k n : ℕ) → has_number (2 ^ k - 1) n ≡ ltb n k
has_number-below k n = grind (arith, nat_tests, cases_lt, lt-ltb, number-from_bit, bit_at_ones, le-ltb, no_number-from_bit, bit_at_ones_above)

-- 2 ^ 16 - 2 ^ k has the numbers from k on, of those below 16
pub has_number-from : (k n : ℕ) → n < 16 → has_number (2 ^ 16 - 2 ^ k) n ≡ leb k n
has_number-from k n low =
    elim (cases_lt n k) [
      | inl below ↦ rw (lt-leb k n below) (no_number-from_bit (2 ^ 16 - 2 ^ k) n (bit_at_mask_below k 16 n below))
      | inr above ↦ rw (le-leb k n above) (number-from_bit (2 ^ 16 - 2 ^ k) n (bit_at_mask_inside k 16 n above low))
    ]

-- ---- one number turned over

-- a bit to which 1 is added becomes the other one, and a bit to which 0 is added stays
one_flipped : (b : ℕ) → b < 2 → eqb ((b + 1) % 2) 1 ≡ not (eqb b 1)
one_flipped zero h = grind (arith, nat_tests)
one_flipped (suc zero) h = grind (arith, nat_tests)
one_flipped (suc (suc b)) h = grind (arith, nat_tests)

none_flipped : (b : ℕ) → b < 2 → eqb ((b + 0) % 2) 1 ≡ eqb b 1
none_flipped zero h = grind (arith, nat_tests)
none_flipped (suc zero) h = grind (arith, nat_tests)
none_flipped (suc (suc b)) h = grind (arith, nat_tests)

-- only the number that is flipped changes
pub has_number-flip : (set n k : ℕ) → has_number (flip_number set n) k ≡ cond (eqb k n) (not (has_number set k)) (has_number set k)
has_number-flip set n k = grind (arith, nat_tests, cases_eq, bit_at-pow_same, bit_at_xor, eq-eqb, one_flipped, bit_at-lt, bit_at-pow_other, ne_eqb, none_flipped)

-- to flip a number that is in the set takes it out
pub has_number-taken : (m n k : ℕ) → has_number m n ≡ true → has_number (flip_number m n) k ≡ (has_number m k && not (eqb k n))
has_number-taken m n k was =
    elim (cases_eq k n) [
      | inl same ↦
          let P : ℕ → Type 0 = λ j. has_number m j ≡ true in
          has_number-flip m n k ∙ rw (eq-eqb k n same, subst P (sym same) was) refl
      | inr other ↦ has_number-flip m n k ∙ rw (ne_eqb k n other) (and_true (has_number m k))
    ]
  where
    and_true : (b : Bool) → b ≡ (b && true)
    and_true true = refl
    and_true false = refl

-- ---- the numbers that another set lacks

pub has_number-without : (a b k : ℕ) → a < 2 ^ 16 → b < 2 ^ 16
    → has_number (bit_and a (bit_not w16 b)) k ≡ (has_number a k && not (has_number b k))
has_number-without a b k a_small b_small =
    elim (cases_lt k 16) [
      | inl low ↦
          let flipped = bit_at_not w16 b k b_small low in
          let other : has_number (bit_not w16 b) k ≡ not (has_number b k) =
          elim (cases_Bool (has_number b k)) [
            | inl x ↦ (let one = bit-from_number b k x in rw x (no_number-from_bit (bit_not w16 b) k (omega (arith, flipped))))
            | inr x ↦ (let none = bit-from_no_number b k x in rw x (number-from_bit (bit_not w16 b) k (omega (arith, flipped))))
          ] in
          has_number-and a (bit_not w16 b) k ∙ ap (λ t. has_number a k && t) other
      | inr high ↦
          let none = has_number-above a 16 k a_small high in
          has_number-and a (bit_not w16 b) k ∙ rw none refl
    ]

-- a set cut to its bits up to n has its numbers up to n
pub has_number-at_most : (set n k : ℕ) → has_number (bit_and set (2 ^ (n + 1) - 1)) k ≡ (has_number set k && leb k n)
has_number-at_most set n k = grind (arith, nat_tests, has_number-and, has_number-below, cases_lt, le-ltb, lt-leb, lt-ltb, le-leb)

-- ---- each number one more, in 16 bits

pub raised_only : (m c : ℕ) → has_number (m * 2 % 65536) c ≡ true → (b : ℕ) × (b + 1 ≡ c) × (has_number m b ≡ true)
raised_only m c e =
    let h : c < 16 = below_from_number (m * 2 % 2 ^ 16) 16 c (mod_below (m * 2) (2 ^ 16) (pow_pos 16)) e in
    let whole : has_number (m * 2) c ≡ true = sym (has_number-mod (m * 2) 16 c h) ∙ e in
    elim (cases_lt 0 c) [
      | inl some ↦ (let f : c - 1 + 1 ≡ c = omega arith in
          (c - 1, f, sym (has_number-double m (c - 1)) ∙ ap (has_number (m * 2)) f ∙ whole))
      | inr none ↦ (let f : c ≡ 0 = omega arith in
          absurd (both_ways (has_number (m * 2) c) (ap (has_number (m * 2)) f ∙ has_number-double_low m) whole))
    ]

pub raised_all : (m b : ℕ) → b < 15 → has_number m b ≡ true → has_number (m * 2 % 65536) (b + 1) ≡ true
raised_all m b h e = has_number-mod (m * 2) 16 (b + 1) (omega arith) ∙ has_number-double m b ∙ e

-- ---- tests of a set and of two

-- a set that isn't empty has a number
pub some_number : (set : ℕ) → set ≢ 0 → set < 2 ^ 16 → (n : ℕ) × (has_number set n ≡ true)
some_number set some small =
    let p : 0 < set = omega arith in
    (trailing_zeros w16 set, number-from_bit set (trailing_zeros w16 set) (bit_at-trailing_zeros w16 set p small).1)

pub empty_test : (set : ℕ) → set < 2 ^ 16 → MatchBool (eqb set 0) (IsEmpty set) ((n : ℕ) × (has_number set n ≡ true))
empty_test set small = grind (arith, nat_tests, cases_eq, eq-eqb, has_number-none, ne_eqb, some_number)

shared_from_and : (a b : ℕ) → a < 2 ^ 16 → bit_and a b ≢ 0 → IsShared a b
shared_from_and a b small some =
    let le = and_le_l a b in
    let there = some_number (bit_and a b) some (omega arith) in
    let both = and_parts _ _ (sym (has_number-and a b there.0) ∙ there.1) in
    (there.0, both.0, both.1)

and-shared : (a b : ℕ) → IsShared a b → bit_and a b ≢ 0
and-shared a b (n, in_first, in_second) e =
    both_ways (has_number 0 n) (has_number-none n) (rw e at (has_number-and a b n ∙ and_from _ _ in_first in_second))

pub disjoint_test : (a b : ℕ) → a < 2 ^ 16 → MatchBool (eqb (bit_and a b) 0) (IsShared a b → ⊥) (IsShared a b)
disjoint_test a b small = grind (arith, nat_tests, cases_eq, eq-eqb, and-shared, ne_eqb, shared_from_and)

subset_from_and : (a b : ℕ) → bit_and a b ≡ a → IsSubset a b
subset_from_and a b whole n e = grind (arith, nat_tests, and_parts, has_number-and)

and-subset : (a b : ℕ) → IsSubset a b → bit_and a b ≡ a
and-subset a b h =
    same_set (bit_and a b) a (λ n. has_number-and a b n ∙ elim (cases_Bool (has_number a n)) [
      | inl e ↦ and_from _ _ e (h n e) ∙ sym e
      | inr e ↦ rw e refl
    ])

-- whether one set is within another, as their common part tells
pub subset_test : (a b : ℕ) → MatchBool (eqb (bit_and a b) a) (IsSubset a b) (IsSubset a b → ⊥)
subset_test a b = grind (arith, nat_tests, cases_eq, eq-eqb, subset_from_and, ne_eqb, and-subset)

-- A set with one number more, as the sum with that number's power of two.
use Rattle.std.proofs.lemmas.Bool.Decides.{nat_tests}
use Rattle.std.proofs.Common.{◌≡◌, ◌≢◌, ℕ, suc, ◌+◌, ◌-◌, ◌*◌, ◌/◌, ◌%◌, ◌^◌, ◌<◌, true, false, sym, ap, ◌∙◌, arith, add-zero, count_ones}
use Rattle.std.specs.Int.{bit_at}
use Rattle.std.proofs.lemmas.Bool.{cases_lt}
use Rattle.std.proofs.lemmas.Nat.{pow_pos, shr_split, div-add-mod', ones_cat, ones_le_self, zero_from_ones, mod_below}
use Rattle.std.proofs.lemmas.Nat.Bits.{bit_at_lowest, bit_at-suc, bit_at_cat_low, bit_at_cat_high}
use Rattle.number_sets.specs.Sets.{has_number}
use Rattle.number_sets.proofs.Members.{bit-from_number, bit-from_no_number, number-from_bit, no_number-from_bit, number-from_same_bit, has_number-above, below_from_numbers}

-- n is m with one number more, k
pub record IsAdded (m k n : ℕ) : Type 0 where
  pub above : ℕ
  pub below : ℕ
  pub small : below < 2 ^ k
  pub from : m ≡ (above * 2) * 2 ^ k + below
  pub to : n ≡ (above * 2 + 1) * 2 ^ k + below

-- a bit that is added where there was none makes the multiple of its power odd
pub odd_multiple : (a p r : ℕ) → (a * 2) * p + r + p ≡ (a * 2 + 1) * p + r
odd_multiple a p r = omega arith

-- adding the power of a number that isn't in puts it in
pub added_with : (m k n : ℕ) → has_number m k ≡ false → n ≡ m + 2 ^ k → IsAdded m k n
added_with m k n e h =
    let q = m / 2 ^ k in
    let even : q % 2 ≡ 0 = bit-from_no_number m k e in
    let half : q / 2 * 2 ≡ q = omega (arith, div-add-mod' q 2) in
    let parts : (q / 2 * 2) * 2 ^ k + m % 2 ^ k ≡ m = rw half (shr_split m k) in
    record {
      above = q / 2;
      below = m % 2 ^ k;
      small = mod_below m (2 ^ k) (pow_pos k);
      from = sym parts;
      to = h ∙ ap (λ x. x + 2 ^ k) (sym parts) ∙ odd_multiple (q / 2) (2 ^ k) (m % 2 ^ k);
    }

-- without the power of a number that is in, a set is what it was before this number was added
pub added_without : (m k n : ℕ) → has_number n k ≡ true → m + 2 ^ k ≡ n → IsAdded m k n
added_without m k n e h =
    let q = n / 2 ^ k in
    let odd : q % 2 ≡ 1 = bit-from_number n k e in
    let half : q / 2 * 2 + 1 ≡ q = omega (arith, div-add-mod' q 2) in
    let parts : (q / 2 * 2 + 1) * 2 ^ k + n % 2 ^ k ≡ n = rw half (shr_split n k) in
    let more : (q / 2 * 2) * 2 ^ k + n % 2 ^ k + 2 ^ k ≡ m + 2 ^ k = odd_multiple (q / 2) (2 ^ k) (n % 2 ^ k) ∙ parts ∙ sym h in
    record {
      above = q / 2;
      below = n % 2 ^ k;
      small = mod_below n (2 ^ k) (pow_pos k);
      from = omega (arith, more);
      to = sym parts;
    }

bit-here : (b k r : ℕ) → r < 2 ^ k → bit_at (b * 2 ^ k + r) k ≡ b % 2
bit-here b k r h = grind (arith, nat_tests, bit_at_cat_high, bit_at_lowest)

-- the number that is added wasn't in before
pub added_lacks : {m k n : ℕ} → IsAdded m k n → has_number m k ≡ false
added_lacks {m} {k} {n} h =
    rw h.from (no_number-from_bit _ k (bit-here (h.above * 2) k h.below h.small ∙ omega arith))

-- the number that is added is in then
pub added_has : {m k n : ℕ} → IsAdded m k n → has_number n k ≡ true
added_has {m} {k} {n} h =
    rw h.to (number-from_bit _ k (bit-here (h.above * 2 + 1) k h.below h.small ∙ omega arith))

bit-higher : (a k r j : ℕ) → r < 2 ^ k → k < j → bit_at ((a * 2) * 2 ^ k + r) j ≡ bit_at ((a * 2 + 1) * 2 ^ k + r) j
bit-higher a k r j h l =
    let e : j - k ≡ suc (j - k - 1) = omega arith in
    let even : a * 2 / 2 ≡ a = omega arith in
    let odd : (a * 2 + 1) / 2 ≡ a = omega arith in
    bit_at_cat_high (a * 2) k r j h (omega arith)
    ∙ ap (bit_at (a * 2)) e ∙ bit_at-suc (a * 2) (j - k - 1) ∙ ap (λ x. bit_at x (j - k - 1)) (even ∙ sym odd)
    ∙ sym (bit_at-suc (a * 2 + 1) (j - k - 1)) ∙ ap (bit_at (a * 2 + 1)) (sym e)
    ∙ sym (bit_at_cat_high (a * 2 + 1) k r j h (omega arith))

-- every other number is in as before
pub added_other : {m k n : ℕ} → IsAdded m k n → (j : ℕ) → j ≢ k → has_number n j ≡ has_number m j
added_other {m} {k} {n} h j ne = grind (arith, nat_tests, cases_lt, bit_at_cat_low, bit-higher, number-from_same_bit)

-- there is one number more
pub added_ones : {m k n : ℕ} → IsAdded m k n → count_ones n ≡ count_ones m + 1
added_ones {m} {k} {n} h =
    let none : count_ones 0 ≡ 0 = omega (arith, ones_le_self 0) in
    let some : count_ones 1 ≢ 0 = λ e. absurd (omega (arith, zero_from_ones 1 e)) in
    let even : count_ones (h.above * 2) ≡ count_ones h.above + count_ones 0 = rw add-zero at (ones_cat 1 h.above 0 (omega arith)) in
    let odd : count_ones (h.above * 2 + 1) ≡ count_ones h.above + count_ones 1 = ones_cat 1 h.above 1 (omega arith) in
    let low = ap count_ones h.from ∙ ones_cat k (h.above * 2) h.below h.small in
    let high = ap count_ones h.to ∙ ones_cat k (h.above * 2 + 1) h.below h.small in
    omega (arith, ones_le_self 1)

-- where both were below a power of two, the set is still
pub added_below : {m k n : ℕ} → IsAdded m k n → (w : ℕ) → m < 2 ^ w → k < w → n < 2 ^ w
added_below {m} {k} {n} h w small inside =
    below_from_numbers n w (λ j l.
    added_other h j (omega arith) ∙ has_number-above m w j small l)

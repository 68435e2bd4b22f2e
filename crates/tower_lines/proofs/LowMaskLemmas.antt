-- Masks without the least and the greatest value: each list has one, and its count tells of the least.
use Rattle.std.proofs.lemmas.Bool.Decides.{nat_tests}
use Rattle.std.proofs.Common.{◌≡◌, ◌≢◌, ℕ, ◌+◌, ◌-◌, ◌*◌, ◌/◌, ◌%◌, ◌^◌, ◌<◌, ◌≤◌, inl, inr, true, false, ◌&&◌, ltb, List, [], ◌∷◌, ◌++◌, length, refl, sym, ap, ◌∙◌, arith, count_ones}
use Rattle.std.proofs.lemmas.Bool.{lt-ltb, le-ltb, cases_eq, cases_lt, and_from}
use Rattle.std.proofs.lemmas.Nat.{pow_pos, mod_below, ones_cat, shr_split}
use Rattle.std.proofs.lemmas.Nat.Bits.{bit_at_lowest}
use Rattle.std.proofs.lemmas.Grind.{pow_more}
use Rattle.number_sets.specs.Sets.{has_number}
use Rattle.number_sets.proofs.Members.{has_number-above, has_number-half, has_number-mod, bit-from_number, bit-from_no_number, below_from_numbers, power_most, same_set}
use Rattle.number_sets.proofs.OneMore.{IsAdded, added_with, added_without, added_has, added_lacks, added_other, added_ones}
use Rattle.tower_lines.specs.LineFillings.{IsStart}
use Rattle.tower_lines.specs.Inner.LineMasks.{is_in}
use Rattle.tower_lines.specs.Inner.Levels.{IsLowMask}
use Rattle.tower_lines.proofs.MaskLemmas.{is_in-push_same, is_in-push_other, IsMasked, mask_of, tower}
use Rattle.tower_lines.proofs.StartLemmas.{is_in-place, is_in-at}

-- ---- the low mask of a list

-- each start has a low mask
pub low_mask_of : {sets : List ℕ} (p : List ℕ) → IsStart sets p → (mask : ℕ) × IsLowMask (length sets) mask p
low_mask_of {sets} p start =
    let n = length sets in
    let b = mask_of p start in (
      b.mask / 2 % 2 ^ (n - 2),
      record {
        bits = λ k. elim (cases_lt k (n - 2)) [
          | inl low ↦ (let e : k + 1 + 1 ≡ k + 2 = omega arith in
              rw (lt-ltb (k + 2) n (omega arith))
              (has_number-mod (b.mask / 2) (n - 2) k low ∙ has_number-half b.mask k ∙ b.used.bits (k + 1) ∙ ap (λ v. is_in v p) e))
          | inr high ↦ rw (le-ltb (k + 2) n (omega arith))
              (has_number-above (b.mask / 2 % 2 ^ (n - 2)) (n - 2) k (mod_below (b.mask / 2) (2 ^ (n - 2)) (pow_pos (n - 2))) high)
        ];
      },
    )

-- a list has only one low mask
pub low_unique : {width m n : ℕ} (p : List ℕ) → IsLowMask width m p → IsLowMask width n p → m ≡ n
low_unique {width} {m} {n} p h i = same_set m n (λ k. h.bits k ∙ sym (i.bits k))

-- a value between the least and the greatest is in the mask where it is in the list
pub low_bit : {width mask : ℕ} (p : List ℕ) (k bit : ℕ) → k ≡ bit + 1 → IsLowMask width mask p → bit + 2 < width
    → has_number mask bit ≡ is_in (k + 1) p
low_bit {width} {mask} p k bit is h l = grind (arith, nat_tests)

-- a value between the least and the greatest that the mask lacks comes to list and mask
pub low_more : {width mask : ℕ} (p : List ℕ) (k bit : ℕ) → k ≡ bit + 1 → IsLowMask width mask p → bit + 2 < width → has_number mask bit ≡ false
    → IsLowMask width (mask + 2 ^ bit) (p ++ (k + 1) ∷ [])
low_more {width} {mask} p k bit is h low fresh =
    let a = added_with mask bit (mask + 2 ^ bit) fresh refl in
    record {
      bits = λ j. elim (cases_eq j bit) [
        | inl same ↦ rw same (added_has a ∙ sym (and_from _ _ (lt-ltb (bit + 2) width low) (is_in-push_same p (k + 1) (bit + 2) (omega arith))))
        | inr other ↦ added_other a j other ∙ h.bits j
            ∙ ap (λ b. ltb (j + 2) width && b) (sym (is_in-push_other p (k + 1) (j + 2) (λ e. other (omega arith))))
      ];
    }

-- a value for which the mask has no bit, the least or the greatest, leaves the mask as it is
pub low_same : {width mask : ℕ} (p : List ℕ) (x : ℕ) → IsLowMask width mask p → ((j : ℕ) → j + 2 < width → j + 2 ≢ x)
    → IsLowMask width mask (p ++ x ∷ [])
low_same {width} {mask} p x h apart = record {
  bits = λ j. h.bits j ∙ elim (cases_lt (j + 2) width) [
    | inl low ↦ ap (λ b. ltb (j + 2) width && b) (sym (is_in-push_other p x (j + 2) (apart j low)))
    | inr high ↦ rw (le-ltb (j + 2) width high) refl
  ];
}

-- ---- a list's values but for the greatest

-- no value from the greatest on is in a start that lacks the greatest
none_high : {sets : List ℕ} (p : List ℕ) (x : ℕ) → IsStart sets p → is_in (length sets) p ≡ false → length sets ≤ x → is_in x p ≡ false
none_high {sets} p x start lacks high = grind (arith, nat_tests, is_in-place, is_in-at)

-- a start that lacks the greatest value has a mask of all its values
pub whole_of : {sets : List ℕ} (p : List ℕ) → IsStart sets p → is_in (length sets) p ≡ false → IsMasked (length sets - 1) p
whole_of {sets} p start lacks =
    let b = mask_of p start in
    let small = below_from_numbers b.mask (length sets - 1) (λ j l. b.used.bits j ∙ none_high p (j + 1) start lacks (omega arith)) in
    record { mask = b.mask; used = b.used; ones = b.ones; small = small }

-- the low mask of a start that lacks the greatest value is half the mask of all its values
pub whole_half : {sets : List ℕ} {mask : ℕ} (p : List ℕ) → IsStart sets p → is_in (length sets) p ≡ false → IsLowMask (length sets) mask p
    → (w : IsMasked (length sets - 1) p) → mask ≡ w.mask / 2
whole_half {sets} {mask} p start lacks h w =
    same_set mask (w.mask / 2) (λ j.
    let e : j + 1 + 1 ≡ j + 2 = omega arith in
    let half : has_number (w.mask / 2) j ≡ is_in (j + 2) p = has_number-half w.mask j ∙ w.used.bits (j + 1) ∙ ap (λ v. is_in v p) e in
    h.bits j ∙ elim (cases_lt (j + 2) (length sets)) [
      | inl low ↦ rw (lt-ltb (j + 2) (length sets) low) (sym half)
      | inr high ↦ rw (le-ltb (j + 2) (length sets) high) (sym (half ∙ none_high p (j + 2) start lacks high))
    ])

-- a value above the least is seen after both masks, that of all values and its half, or after neither
pub tower_half : (whole mask k bit : ℕ) → k ≡ bit + 1 → mask ≡ whole / 2 → tower whole k ≡ tower mask bit
tower_half whole mask k bit is half = grind (arith, nat_tests, pow_more)

-- ---- whether a start has the least value

ones_half : (m : ℕ) → count_ones m ≡ count_ones (m / 2) + m % 2
unfolding lib.Count.ones
ones_half m =
    let parts : m / 2 * 2 ^ 1 + m % 2 ≡ m = shr_split m 1 in
    let apart : count_ones (m / 2 * 2 ^ 1 + m % 2) ≡ count_ones (m / 2) + count_ones (m % 2) = ones_cat 1 (m / 2) (m % 2) (omega arith) in
    let low : count_ones (m % 2) ≡ m % 2 = elim (cases_eq (m % 2) 0) [
      | inl none ↦ rw none refl
      | inr some ↦ (let one : m % 2 ≡ 1 = omega arith in rw one refl)
    ] in
    ap count_ones (sym parts) ∙ apart ∙ ap (λ n. count_ones (m / 2) + n) low

-- the list's values are those of the low mask, the least if the list has it, and `further` more
pub record IsRest (p : List ℕ) (mask further : ℕ) : Type 0 where
  pub rest : ℕ
  pub half : mask ≡ rest / 2
  pub least : has_number rest 0 ≡ is_in 1 p
  pub ones : count_ones rest + further ≡ length p

-- a list lacks the least value exactly if it has as many values as the low mask and the further ones
pub least_tells : {mask further : ℕ} (p : List ℕ) → IsRest p mask further → is_in 1 p ≡ false → count_ones mask + further ≡ length p
least_tells {mask} {further} p r lacks = grind (arith, nat_tests, bit_at_lowest, bit-from_no_number, ones_half)

pub least_told : {mask further : ℕ} (p : List ℕ) → IsRest p mask further → count_ones mask + further ≡ length p → is_in 1 p ≡ false
least_told {mask} {further} p r all = grind (arith, nat_tests, bit_at_lowest, bit-from_number, ones_half)

-- a start without the greatest value has only the values of its low mask and perhaps the least
pub rest_low : {sets : List ℕ} {mask : ℕ} (p : List ℕ) → IsStart sets p → is_in (length sets) p ≡ false → IsLowMask (length sets) mask p
    → IsRest p mask 0
rest_low {sets} {mask} p start lacks h =
    let w = whole_of p start lacks in
    record {
      rest = w.mask;
      half = whole_half p start lacks h w;
      least = w.used.bits 0;
      ones = omega (arith, w.ones);
    }

-- a start with the greatest value has one value besides those of its low mask and perhaps the least
pub rest_last : {sets : List ℕ} {mask : ℕ} (p : List ℕ) → 1 < length sets → IsStart sets p → is_in (length sets) p ≡ true
    → IsLowMask (length sets) mask p → IsRest p mask 1
rest_last {sets} {mask} p more start has h =
    let n = length sets in
    let b = mask_of p start in
    let top : n - 1 + 1 ≡ n = omega arith in
    let there : has_number b.mask (n - 1) ≡ true = b.used.bits (n - 1) ∙ ap (λ v. is_in v p) top ∙ has in
    let most = power_most b.mask (n - 1) there in
    let rest = b.mask - 2 ^ (n - 1) in
    let whole : rest + 2 ^ (n - 1) ≡ b.mask = omega arith in
    let a : IsAdded rest (n - 1) b.mask = added_without rest (n - 1) b.mask there whole in
    record {
      rest = rest;
      half = same_set mask (rest / 2) (λ j.
          let e : j + 1 + 1 ≡ j + 2 = omega arith in
          h.bits j ∙ elim (cases_lt (j + 2) n) [
            | inl low ↦ rw (lt-ltb (j + 2) n low)
                (sym (has_number-half rest j ∙ sym (added_other a (j + 1) (λ s. omega arith)) ∙ b.used.bits (j + 1) ∙ ap (λ v. is_in v p) e))
            | inr high ↦ rw (le-ltb (j + 2) n high) (sym (has_number-half rest j ∙ elim (cases_eq (j + 1) (n - 1)) [
              | inl same ↦ rw same (added_lacks a)
              | inr other ↦ sym (added_other a (j + 1) other) ∙ has_number-above b.mask n (j + 1) b.small (omega arith)
            ]))
          ]);
      least = sym (added_other a 0 (λ s. omega arith)) ∙ b.used.bits 0;
      ones = omega (arith, added_ones a, b.ones);
    }

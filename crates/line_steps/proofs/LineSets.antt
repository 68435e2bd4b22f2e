-- Sets of lines, as the numbers whose bits they are.
use Rattle.std.proofs.lemmas.Bool.Decides.{nat_tests}
use Rattle.std.proofs.Common.{◌≡◌, ◌≢◌, ℕ, ◌+◌, ◌-◌, ◌*◌, ◌^◌, ◌%◌, ◌<◌, ◌≤◌, ◌⊎◌, true, false, inl, inr, refl, sym, ◌∙◌, subst, arith, bit_and, nat_lt}
use Rattle.std.specs.Int.{trailing_zeros}
use Rattle.std.specs.Int.Width.{w32}
use Rattle.std.proofs.lemmas.Bool.{and_from, and_parts, both_ways, cases_Bool, cases_eq, cases_lt, false_from_ne_true, lt-ltb, ltb-true, ne_eqb}
use Rattle.std.proofs.lemmas.Nat.{and_le_r, mod_below, pow_pos}
use Rattle.std.proofs.lemmas.Nat.Bits.{bit_at-trailing_zeros}
use Rattle.number_sets.specs.Sets.{has_number, IsSubset}
use Rattle.number_sets.proofs.Members.{below_from_numbers, has_number-above, has_number-and, has_number-mod, has_number-none, number-from_bit, subset_test}
use Rattle.line_steps.specs.Inner.ChangedLines.{HasNoneBelow, IsOneBelow, LosesLine}
use Rattle.std.proofs.Math.Bool.{and-true, and-false}
use Rattle.std.proofs.lemmas.Bool.{eq-eqb}
use Rattle.std.proofs.Math.Nat.{mul-le-mul_left}

-- ---- the next one of the first lines

-- if the set and the set of the first lines share no line, none of the first is in the set
pub none_below : (count bits first : ℕ) → ((k : ℕ) → has_number first k ≡ nat_lt k count) → bit_and bits first ≡ 0 → HasNoneBelow count bits
none_below count bits first are none line low = elim (cases_Bool (has_number bits line)) [
  | inl has ↦
      let both = has_number-and bits first line ∙ and_from _ _ has (are line ∙ lt-ltb line count low) in
      absurd (both_ways (has_number 0 line) (has_number-none line) (rw none at both))
  | inr lacks ↦ lacks
]

-- the lines of a set that a mask has, too, are among those of the set
pub masked_among : (set mask part : ℕ) → part ≡ bit_and set mask → IsSubset part set
masked_among set mask part is k has = (and_parts _ _ (sym (has_number-and set mask k) ∙ subst (λ (m : ℕ). has_number m k ≡ true) is has)).0

-- a line in a part of what the set shares with the first lines is one of the first, and in the set
below_part : (count bits first part : ℕ) → ((k : ℕ) → has_number first k ≡ nat_lt k count) → IsSubset part (bit_and bits first) → (line : ℕ)
    → has_number part line ≡ true → IsOneBelow count bits line
below_part count bits first part are inside line has =
    let both = and_parts _ _ (sym (has_number-and bits first line) ∙ inside line has) in
    (ltb-true line count (sym (are line) ∙ both.1), both.0)

-- the least line in a part of what the set shares with the first lines is one of the first, and in the set
pub one_below : (count bits first part : ℕ) → ((k : ℕ) → has_number first k ≡ nat_lt k count) → IsSubset part (bit_and bits first) → count < 32
    → part ≢ 0 → IsOneBelow count bits (trailing_zeros w32 part)
one_below count bits first part are inside small some =
    let positive : 0 < part = omega arith in
    let bound = below_from_numbers part 32 (λ line high. false_from_ne_true (has_number part line) (λ has.
    let below = below_part count bits first part are inside line has in omega (arith, below.0, small, high))) in
    let line = trailing_zeros w32 part in
    below_part count bits first part are inside line (number-from_bit part line (bit_at-trailing_zeros w32 part positive bound).1)

-- ---- which of two is less

-- a set within another is no greater number
subset_le : (a b : ℕ) → IsSubset a b → a ≤ b
subset_le a b inside =
    let test = subset_test a b in
    elim (cases_eq (bit_and a b) a) [
      | inl same ↦ let least = and_le_r a b in omega (arith, same, least)
      | inr less ↦ absurd ((rw (ne_eqb (bit_and a b) a less) at test) inside)
    ]

-- a set of lines that gains none is no greater number
pub set_most : (s t : ℕ) → ((k : ℕ) → has_number s k ≡ false → has_number t k ≡ false) → t % 2 ^ 32 ≤ s % 2 ^ 32
set_most s t fewer =
    let inside : IsSubset (t % 2 ^ 32) (s % 2 ^ 32) = λ k has. elim (cases_lt k 32) [
      | inl low ↦ has_number-mod s 32 k low ∙ elim (cases_Bool (has_number s k)) [
        | inl there ↦ there
        | inr lacks ↦ absurd (both_ways (has_number t k) (fewer k lacks) (sym (has_number-mod t 32 k low) ∙ has))
      ]
      | inr high ↦ absurd (both_ways (has_number (t % 2 ^ 32) k) (has_number-above (t % 2 ^ 32) 32 k (mod_below t (2 ^ 32) (pow_pos 32)) high) has)
    ] in
    subset_le (t % 2 ^ 32) (s % 2 ^ 32) inside

-- a set of lines that gains none and loses one is a lesser number
pub set_less : (line s t : ℕ) → line < 32 → has_number s line ≡ true → ((k : ℕ) → (k ≡ line) ⊎ (has_number s k ≡ false) → has_number t k ≡ false)
    → t % 2 ^ 32 < s % 2 ^ 32
set_less line s t low was fewer =
    let le = set_most s t (λ k lacks. fewer k (inr lacks)) in
    grind (arith, nat_tests, le, has_number-mod t 32 line low, has_number-mod s 32 line low, fewer line (inl refl), both_ways)

-- ---- how long it can go on

-- work is nearer to its end where the trail has grown, or the sets of lines are lesser
pub nearer : (old new m n : ℕ) → old ≤ new → old ≤ 729 → n < 2 ^ 33 → (new ≡ old → n < m) → (730 - new) * 2 ^ 33 + n < (730 - old) * 2 ^ 33 + m
nearer old new m n longer bound small less = elim (cases_eq new old) [
  | inl same ↦ let fewer = less same in omega (arith, same, fewer)
  | inr grown ↦ omega (arith, longer, grown, bound, small)
]

-- a set without a line has the other lines as before
pub lost_other : (line k s t : ℕ) → LosesLine line s t → k ≢ line → has_number t k ≡ has_number s k
lost_other line k s t loses apart = loses k ∙ rw (ne_eqb k line apart) (and-true (has_number s k))

-- a set that lost a line lacks it
lost_itself : (line s t : ℕ) → LosesLine line s t → has_number t line ≡ false
lost_itself line s t loses = loses line ∙ rw (eq-eqb line line refl) (and-false (has_number s line))

-- a set that lost a line has neither it nor what it lacked before
pub lost_one : (line k s t : ℕ) → LosesLine line s t → (k ≡ line) ⊎ (has_number s k ≡ false) → has_number t k ≡ false
lost_one line k s t loses out = grind (arith, nat_tests, cases_eq, lost_itself, lost_other)

-- no size has more pairs than the widest
pub cube_most : (w : ℕ) → w ≤ 9 → w * w * w ≤ 729
cube_most w small = grind (arith, nat_tests, mul-le-mul_left)

-- The values from the greatest on that is left of a square, and those up to the least, as sets.
use Rattle.std.proofs.lemmas.Bool.Decides.{nat_tests}
use Rattle.std.proofs.Common.{◌≡◌, ◌≢◌, ◌↔◌, ℕ, ◌+◌, ◌-◌, ◌*◌, ◌%◌, ◌^◌, ◌<◌, ◌≤◌, true, false, nat_le, nat_lt, ◌&&◌, bit_and, bit_or, bit_xor, sym, ap, ◌∙◌, inl, inr, arith, add-one}
use Rattle.std.specs.Int.{bit_at}
use Rattle.std.specs.Int.Bits.{xor_add_and}
use Rattle.std.proofs.Math.Nat.{pow-suc}
use Rattle.std.proofs.lemmas.Bool.{both_ways, and_parts, or_cases, or_left, cases_lt, cases_eq, lt-ltb, ltb-true, leb-true, le-leb}
use Rattle.std.proofs.lemmas.Nat.{pow_pos, or_lt, and_le_l}
use Rattle.std.proofs.lemmas.Nat.Bits.{bit_at_xor, ones_shl, bit_at-lt}
use Rattle.number_sets.specs.Sets.{has_number, IsGreatest}
use Rattle.number_sets.proofs.Ends.{lowest_power, greatest_is}
use Rattle.number_sets.proofs.Members.{bit-from_number, no_number-from_bit, has_number-none, has_number-below, has_number-from, has_number-and, has_number-or, number_of_one, below_from_number}
use Rattle.number_sets.proofs.OneMore.{added_without, added_other}
use Rattle.trail_solver.specs.Candidates.{CandidatesValue, IsSetOf}
use Rattle.line_steps.specs.Left.{IsLeft}

-- ---- as numbers

-- the next power of two is twice this one
pow_next : (k : ℕ) → 2 ^ (k + 1) ≡ 2 ^ k * 2
pow_next k = rw add-one (pow-suc 2 k)

-- a set and the number before it differ in all numbers up to some one of the set
low_numbers : (set : ℕ) → set ≢ 0 → set < 2 ^ 16 → (k : ℕ) × (bit_xor set (set - 1) ≡ 2 ^ (k + 1) - 1) × (has_number set k ≡ true)
low_numbers set some small =
    let (k, power, last) = lowest_power set (omega (arith, some)) (omega (arith, small)) in
    (k, omega (arith, some, power, and_le_l set (set - 1), xor_add_and set (set - 1), pow_next k), last)

-- the last number in which a set and the number before it differ is the least of the set
low_least : (set k u : ℕ) → set ≢ 0 → set < 2 ^ 16 → bit_xor set (set - 1) ≡ 2 ^ (k + 1) - 1 → has_number set k ≡ true → has_number set u ≡ true → k ≤ u
low_least set k u some small is last has = elim (cases_lt u k) [
  | inl below ↦
      let before = set - 1 in
      let both : (bit_at set u + bit_at before u) % 2 ≡ 1 =
      sym (bit_at_xor set before u) ∙ bit-from_number (bit_xor set before) u
      (ap (λ (n : ℕ). has_number n u) is ∙ has_number-below (k + 1) u ∙ lt-ltb u (k + 1) (omega (arith, below))) in
      let lacks : has_number before u ≡ false = no_number-from_bit before u (omega (arith, both, bit-from_number set u has, bit_at-lt before u)) in
      let rest : bit_and set before + 2 ^ k ≡ set = omega (arith, is, some, xor_add_and set before, pow_next k, pow_pos k) in
      let kept : has_number (bit_and set before) u ≡ true = sym (added_other (added_without (bit_and set before) k set last rest) u (λ e. omega (arith, e, below))) ∙ has in
      absurd (both_ways (has_number before u) lacks (and_parts (has_number set u) (has_number before u) (sym (has_number-and set before u) ∙ kept)).1)
  | inr above ↦ above
]

-- a set and the number before it differ in the numbers that none of the set is below; an empty set in all
pub up_to_least_has : (set result v : ℕ) → set < 2 ^ 16 → result ≡ bit_xor set ((set + 65535) % 65536)
    → (has_number result v ≡ true) ↔ ((v < 16) × ((u : ℕ) → has_number set u ≡ true → v ≤ u))
up_to_least_has set result v small is = elim (cases_eq set 0) [
  | inl none ↦
      let all : has_number result v ≡ nat_lt v 16 = ap (λ (n : ℕ). has_number n v) (is ∙ ap (λ (n : ℕ). bit_xor n ((n + 65535) % 65536)) none) ∙ has_number-below 16 v in (
        λ has. (ltb-true v 16 (sym all ∙ has), λ u there. absurd (both_ways (has_number set u) (ap (λ (n : ℕ). has_number n u) none ∙ has_number-none u) there)),
        λ h. all ∙ lt-ltb v 16 h.0,
      )
  | inr some ↦
      let low = low_numbers set some small in
      let before : (set + 65535) % 65536 ≡ set - 1 = omega (arith, some, small) in
      let known : has_number result v ≡ nat_lt v (low.0 + 1) =
      ap (λ (n : ℕ). has_number n v) (is ∙ ap (λ (n : ℕ). bit_xor set n) before ∙ low.1) ∙ has_number-below (low.0 + 1) v in
      let inside : low.0 < 16 = below_from_number set 16 low.0 small low.2 in (
        λ has.
            let under = ltb-true v (low.0 + 1) (sym known ∙ has) in
            (omega (arith, under, inside), λ u there. let least = low_least set low.0 u some small low.1 low.2 there in omega (arith, under, least)),
        λ h. known ∙ lt-ltb v (low.0 + 1) (omega (arith, h.1 low.0 low.2)),
      )
]

-- the numbers from the greatest of a set on are those that none of the set is above
pub from_greatest_has : (set top result v : ℕ) → set < 2 ^ 16 → 2 ^ top ≤ bit_or set 1 → bit_or set 1 < 2 * 2 ^ top → result ≡ 65535 * 2 ^ top % 65536
    → (has_number result v ≡ true) ↔ ((v < 16) × ((u : ℕ) → has_number set u ≡ true → u ≤ v))
from_greatest_has set top result v small low high is =
    let some = bit_or set 1 in
    let greatest : IsGreatest some top = greatest_is some top low high in
    let inside : top < 16 = below_from_number some 16 top (or_lt 16 set 1 small (omega arith)) greatest.has in
    let whole : result ≡ 2 ^ 16 - 2 ^ top = is ∙ ones_shl 16 top (omega (arith, inside)) in
    let known : v < 16 → has_number result v ≡ nat_le top v = λ low. ap (λ (n : ℕ). has_number n v) whole ∙ has_number-from top v low in (
      λ has.
          let under : v < 16 = below_from_number result 16 v (omega (arith, whole, pow_pos top)) has in
          let over = leb-true top v (sym (known under) ∙ has) in
          (under, λ u there. let most = greatest.greatest u (has_number-or set 1 u ∙ or_left (has_number set u) (has_number 1 u) there) in omega (arith, over, most)),
      λ h. known h.0 ∙ le-leb top v (elim (or_cases (has_number set top) (has_number 1 top) (sym (has_number-or set 1 top) ∙ greatest.has)) [
        | inl there ↦ h.1 top there
        | inr first ↦ let zero = number_of_one 0 top first in omega (arith, zero)
      ]),
    )

-- ---- as what is left of a square

-- a number that bounds the set of a square bounds the values that are left of it
pub bounds_left : (c : CandidatesValue) (from set bounds x : ℕ) (Is : ℕ → Type 0) → c.size ≤ 9 → x ≤ c.size → IsSetOf c from set
    → ((has_number bounds x ≡ true) ↔ ((x < 16) × ((u : ℕ) → has_number set u ≡ true → Is u)))
    → (has_number bounds x ≡ true) ↔ ((u : ℕ) → IsLeft c from u → Is u)
bounds_left c from set bounds x Is small high is tested = grind (arith, nat_tests)

-- the values of the size that bound the values that are left of a square
pub bounds_struck : (c : CandidatesValue) (from set bounds all result v : ℕ) (Is : ℕ → Type 0) → c.size ≤ 9 → IsSetOf c from set
    → ((k : ℕ) → has_number all k ≡ (nat_le 1 k && nat_le k c.size))
    → ((has_number bounds v ≡ true) ↔ ((v < 16) × ((u : ℕ) → has_number set u ≡ true → Is u)))
    → ((n : ℕ) → has_number result n ≡ (has_number all n && has_number bounds n))
    → (has_number result v ≡ true) ↔ ((1 ≤ v) × (v ≤ c.size) × ((u : ℕ) → IsLeft c from u → Is u))
bounds_struck c from set bounds all result v Is small is members tested shared = grind (arith, nat_tests, bounds_left)

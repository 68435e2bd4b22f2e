-- The least and the greatest number of a set, and sets of one number.
use Rattle.std.proofs.lemmas.Bool.Decides.{nat_tests}
use Rattle.std.proofs.Common.{◌≡◌, ◌≢◌, ℕ, ◌+◌, ◌-◌, ◌*◌, ◌/◌, ◌%◌, ◌^◌, ◌<◌, ◌≤◌, inl, inr, true, false, eqb, refl, sym, ap, ◌∙◌, subst, arith, add-zero, add-one, bit_and, w16, w64}
use Rattle.std.specs.Bool.{MatchBool}
use Rattle.std.specs.Int.{trailing_zeros}
use Rattle.std.specs.Int.Bits.{and_self}
use Rattle.std.proofs.Math.Nat.{pow-suc}
use Rattle.std.proofs.lemmas.Bool.{cases_Bool, cases_lt, cases_eq, both_ways, false_from_ne_true, eq-eqb, ne_eqb}
use Rattle.std.proofs.lemmas.Nat.{pow_pos, shr_split, div-add-mod', mod_below, and_le_l, and_block}
use Rattle.std.proofs.lemmas.Nat.Bits.{bit_at-trailing_zeros}
use Rattle.number_sets.specs.Sets.{has_number, IsSingle, IsLeast, IsGreatest}
use Rattle.number_sets.proofs.Members.{number-from_bit, no_number-from_bit, has_number-above, has_number-mod, has_number-one, has_number-one_same, number_of_one, none_from_numbers, below_from_numbers, same_set}
use Rattle.number_sets.proofs.OneMore.{odd_multiple}

-- ---- the least number

pub least_is : (set : ℕ) → set ≢ 0 → set < 2 ^ 16 → IsLeast set (trailing_zeros w16 set)
least_is set some small =
    let p : 0 < set = omega arith in
    let (inside, bit, none) = bit_at-trailing_zeros w16 set p small in
    record {
      has = number-from_bit set (trailing_zeros w16 set) bit;
      least = λ n e. elim (cases_lt n (trailing_zeros w16 set)) [
        | inl below ↦ absurd (both_ways (has_number set n) (no_number-from_bit set n (none n below)) e)
        | inr above ↦ above
      ];
    }

-- ---- the greatest number

pow_next : (k : ℕ) → 2 ^ (k + 1) ≡ 2 ^ k * 2
pow_next k = rw add-one (pow-suc 2 k)

-- the greatest number of a set is that whose power of two is at most the set, and more than half of it
pub greatest_is : (set k : ℕ) → 2 ^ k ≤ set → set < 2 * 2 ^ k → IsGreatest set k
greatest_is set k low high = record {
  has = elim (cases_Bool (has_number set k)) [
    | inl e ↦ e
    | inr none ↦
        let below : set < 2 ^ k = below_from_numbers set k (λ j above. elim (cases_eq j k) [
          | inl same ↦ let P : ℕ → Type 0 = λ i. has_number set i ≡ false in subst P (sym same) none
          | inr other ↦ has_number-above set (k + 1) j (omega (arith, pow_next k)) (omega arith)
        ]) in
        absurd (omega arith)
  ];
  greatest = λ n e. elim (cases_lt k n) [
    | inl above ↦ absurd (both_ways (has_number set n) (has_number-above set (k + 1) n (omega (arith, pow_next k)) (omega arith)) e)
    | inr below ↦ below
  ];
}

-- ---- one number alone

pub single_is : (set n : ℕ) → IsSingle set n → set ≡ 2 ^ n
single_is set n single =
    same_set set (2 ^ n) (λ k. elim (cases_eq k n) [
      | inl same ↦
          let P : ℕ → Type 0 = λ j. has_number set j ≡ has_number (2 ^ n) j in
          subst P (sym same) (single.has ∙ sym (has_number-one_same n))
      | inr other ↦
          false_from_ne_true (has_number set k) (λ h. other (single.alone k h))
          ∙ sym (has_number-one n k ∙ ne_eqb k n other)
    ])

-- an odd multiple of a power of two, and the number before it
and_before : (a p k : ℕ) → p ≡ 2 ^ k → bit_and ((a * 2 + 1) * p) ((a * 2 + 1) * p - 1) ≡ (a * 2) * p
and_before a p k is =
    let some : 0 < p = rw is (pow_pos k) in
    let pred : (a * 2 + 1) * p - 1 ≡ (a * 2) * p + (p - 1) = omega arith in
    let low : p - 1 < 2 ^ k = rw (← is) (omega arith) in
    let high : bit_and (a * 2 + 1) (a * 2 + 0) ≡ bit_and a a * 2 + 0 = and_block 1 a a 1 0 (omega arith) (omega arith) in
    let parts : bit_and ((a * 2 + 1) * p + 0) ((a * 2 + 0) * p + (p - 1)) ≡ bit_and (a * 2 + 1) (a * 2 + 0) * p + 0 =
    rw is (and_block k (a * 2 + 1) (a * 2 + 0) 0 (2 ^ k - 1) (pow_pos k) (rw is at low)) in
    let high' : bit_and (a * 2 + 1) (a * 2) ≡ a * 2 = simp (add-zero, and_self) at high in
    let parts' : bit_and ((a * 2 + 1) * p) ((a * 2) * p + (p - 1)) ≡ bit_and (a * 2 + 1) (a * 2) * p = simp add-zero at parts in
    rw pred (parts' ∙ ap (λ x. x * p) high')

-- a number n above 0, less what it shares with n - 1, is the power of two of its least
pub lowest_power : (n : ℕ) → 0 < n → n < 2 ^ 64 → (k : ℕ) × (n - bit_and n (n - 1) ≡ 2 ^ k) × (has_number n k ≡ true)
lowest_power n p h =
    let k = trailing_zeros w64 n in
    let (inside, bit, lacks) = bit_at-trailing_zeros w64 n p h in
    let none : n % 2 ^ k ≡ 0 = none_from_numbers (n % 2 ^ k) (λ j. elim (cases_lt j k) [
      | inl low ↦ has_number-mod n k j low ∙ no_number-from_bit n j (lacks j low)
      | inr high ↦ has_number-above (n % 2 ^ k) k j (mod_below n (2 ^ k) (pow_pos k)) high
    ]) in
    let a = n / 2 ^ k / 2 in
    let odd : a * 2 + 1 ≡ n / 2 ^ k = omega (arith, div-add-mod' (n / 2 ^ k) 2, bit) in
    let whole : (a * 2 + 1) * 2 ^ k ≡ n = rw odd (omega (arith, shr_split n k)) in
    let e = rw whole at (and_before a (2 ^ k) k refl) in
    (k, omega (arith, odd_multiple a (2 ^ k) 0), number-from_bit n k bit)

single_from_and : (set : ℕ) → set ≢ 0 → set < 2 ^ 16 → bit_and set (set - 1) ≡ 0 → (n : ℕ) × IsSingle set n
single_from_and set some small none =
    let (n, power, has) = lowest_power set (omega arith) (omega arith) in
    let whole : set ≡ 2 ^ n = omega (arith, power) in
    (n, record { has = has; alone = λ k h. let P : ℕ → Type 0 = λ m. has_number m k ≡ true in number_of_one n k (subst P whole h) })

and-single : (set n : ℕ) → set ≢ 0 → set < 2 ^ 16 → IsSingle set n → bit_and set (set - 1) ≡ 0
and-single set n some small single =
    let (lowest, power, has) = lowest_power set (omega arith) (omega arith) in
    let same : lowest ≡ n = single.alone lowest has in
    let whole : set - bit_and set (set - 1) ≡ set = power ∙ ap (λ (k : ℕ). 2 ^ k) same ∙ sym (single_is set n single) in
    let le = and_le_l set (set - 1) in
    omega arith

pub single_test : (set : ℕ) → set ≢ 0 → set < 2 ^ 16
    → MatchBool (eqb (bit_and set (set - 1)) 0) ((n : ℕ) × IsSingle set n) ((n : ℕ) → IsSingle set n → ⊥)
single_test set some small = grind (arith, nat_tests, cases_eq, eq-eqb, single_from_and, ne_eqb, and-single)

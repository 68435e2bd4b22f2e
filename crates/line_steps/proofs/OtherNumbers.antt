-- Sets without some of their numbers.
use Rattle.std.proofs.lemmas.Bool.Decides.{nat_tests}
use Rattle.std.proofs.Common.{◌≡◌, ◌≢◌, ◌↔◌, ℕ, ◌-◌, ◌^◌, ◌<◌, true, false, not, ◌&&◌, inl, inr, sym, ap, ◌∙◌, subst, arith}
use Rattle.std.proofs.lemmas.Bool.{both_ways, and_parts, and_from, cases_eq, false_from_ne_true, not_from_false}
use Rattle.number_sets.specs.Sets.{has_number, IsSingle}
use Rattle.number_sets.proofs.Members.{has_number-none, power_most, some_number}
use Rattle.number_sets.proofs.OneMore.{IsAdded, added_without, added_lacks, added_other}

-- taking 2^k from a set with the number k gives the set without it
pub one_less : (set k : ℕ) → has_number set k ≡ true → IsAdded (set - 2 ^ k) k set
one_less set k has = added_without (set - 2 ^ k) k set has (omega (arith, power_most set k has))

-- a number of the set without k is a number of the set, and isn't k
pub was_other : (fewer k set j : ℕ) → IsAdded fewer k set → has_number fewer j ≡ true → (j ≢ k) × (has_number set j ≡ true)
was_other fewer k set j a has =
    let apart : j ≢ k = λ same. both_ways (has_number fewer j) (subst (λ (i : ℕ). has_number fewer i ≡ false) (sym same) (added_lacks a)) has in
    (apart, added_other a j apart ∙ has)

-- a set with a number that isn't its only one has another
pub another : (set n : ℕ) → set < 2 ^ 16 → has_number set n ≡ true → ((k : ℕ) → IsSingle set k → ⊥) → (k : ℕ) × (k ≢ n) × (has_number set k ≡ true)
another set n small has several =
    let fewer = set - 2 ^ n in
    let a = one_less set n has in
    elim (cases_eq fewer 0) [
      | inl none ↦ absurd (several n (record {
        has = has;
        alone = λ k there. elim (cases_eq k n) [
          | inl same ↦ same
          | inr other ↦ absurd (both_ways (has_number fewer k) (ap (λ (m : ℕ). has_number m k) none ∙ has_number-none k) (sym (added_other a k other) ∙ there))
        ];
      }))
      | inr some ↦
          let k = some_number fewer some (omega (arith, small)) in
          let was = was_other fewer n set k.0 a k.1 in
          (k.0, was.0, was.1)
    ]

-- the difference of two sets has the numbers that the first has and the second lacks
pub has_rest : (all some rest v : ℕ) → ((n : ℕ) → has_number rest n ≡ (has_number all n && not (has_number some n)))
    → (has_number rest v ≡ true) ↔ ((has_number all v ≡ true) × (has_number some v ≡ true → ⊥))
has_rest all some rest v is = grind (arith, nat_tests, and_parts, both_ways, and_from, not_from_false, false_from_ne_true)

-- Where each number of one set has a number of its own in another set, the other has as many at least.
use Rattle.std.proofs.Common.{◌≡◌, ◌≢◌, ℕ, zero, suc, ◌+◌, ◌-◌, ◌^◌, ◌<◌, ◌≤◌, true, false, inl, inr, refl, sym, ap, ◌∙◌, subst, arith, count_ones}
use Rattle.std.proofs.lemmas.Bool.{both_ways, cases_eq, false_from_ne_true}
use Rattle.std.proofs.lemmas.Nat.{ones_le_self}
use Rattle.number_sets.specs.Sets.{has_number}
use Rattle.number_sets.proofs.Members.{below_from_numbers, power_most, some_number}
use Rattle.number_sets.proofs.OneMore.{IsAdded, added_with, added_without, added_lacks, added_has, added_other, added_ones}

-- each number of the crowd lands on a number of its own among the rights
pub record Injects (crowd rights : ℕ) (f : ℕ → ℕ) : Type 0 where
  pub small : (i : ℕ) → has_number crowd i ≡ true → i < 16
  pub lands : (i : ℕ) → has_number crowd i ≡ true → has_number rights (f i) ≡ true
  pub apart : (i j : ℕ) → has_number crowd i ≡ true → has_number crowd j ≡ true → f i ≡ f j → i ≡ j

-- a set without one of its numbers
one_less : (n k : ℕ) → has_number n k ≡ true → (m : ℕ) × IsAdded m k n
one_less n k h = (n - 2 ^ k, added_without (n - 2 ^ k) k n h (omega (arith, power_most n k h)))

-- a number of the smaller set is one of the greater, and another than the one that went
other_than : (m k n i : ℕ) → IsAdded m k n → has_number m i ≡ true → i ≢ k
other_than m k n i a h = λ e.
    let P : ℕ → Type 0 = λ j. has_number m j ≡ true in
    both_ways (has_number m k) (added_lacks a) (subst P e h)

was_there : (m k n i : ℕ) → IsAdded m k n → has_number m i ≡ true → has_number n i ≡ true
was_there m k n i a h = added_other a i (other_than m k n i a h) ∙ h

rest_injects : (m k n p r : ℕ) (f : ℕ → ℕ) → IsAdded m k n → IsAdded p (f k) r → Injects n r f → Injects m p f
rest_injects m k n p r f a b h = record {
  small = λ i has. h.small i (was_there m k n i a has);
  lands = λ i has.
      let there = was_there m k n i a has in
      let other : f i ≢ f k = λ e. other_than m k n i a has (h.apart i k there (added_has a) e) in
      sym (added_other b (f i) other) ∙ h.lands i there;
  apart = λ i j first second e. h.apart i j (was_there m k n i a first) (was_there m k n j a second) e;
}

some_of_counted : (crowd n : ℕ) → count_ones crowd ≡ suc n → ((i : ℕ) → has_number crowd i ≡ true → i < 16)
    → (k : ℕ) × (has_number crowd k ≡ true)
some_of_counted crowd n count small =
    some_number crowd (λ e. omega (arith, count, ones_le_self crowd))
    (below_from_numbers crowd 16 (λ j far. false_from_ne_true (has_number crowd j) (λ h. omega (arith, small j h))))

at_least : (n crowd rights : ℕ) (f : ℕ → ℕ) → count_ones crowd ≡ n → Injects crowd rights f → n ≤ count_ones rights
at_least zero crowd rights f count h = omega arith
at_least (suc n) crowd rights f count h =
    let k = some_of_counted crowd n count h.small in
    let c = one_less crowd k.0 k.1 in
    let r = one_less rights (f k.0) (h.lands k.0 k.1) in
    let fewer : count_ones c.0 ≡ n = omega (arith, added_ones c.1) in
    let rest = at_least n c.0 r.0 f fewer (rest_injects c.0 k.0 crowd r.0 rights f c.1 r.1 h) in
    omega (arith, rest, added_ones r.1)

-- where each of a crowd has a right of its own, there are no fewer rights than lefts
pub pigeonhole : (crowd rights : ℕ) (f : ℕ → ℕ) → Injects crowd rights f → count_ones crowd ≤ count_ones rights
pigeonhole crowd rights f h = at_least (count_ones crowd) crowd rights f refl h

-- ---- one more

more_injects : (crowd k more rights : ℕ) (f : ℕ → ℕ) → IsAdded crowd k more → Injects crowd rights f → k < 16
    → has_number rights (f k) ≡ true → ((i : ℕ) → has_number crowd i ≡ true → f i ≡ f k → i ≡ k) → Injects more rights f
more_injects crowd k more rights f a h low here apart = record {
  small = λ i has. elim (cases_eq i k) [
    | inl e ↦ omega arith
    | inr n ↦ h.small i (sym (added_other a i n) ∙ has)
  ];
  lands = λ i has. elim (cases_eq i k) [
    | inl e ↦ let P : ℕ → Type 0 = λ j. has_number rights (f j) ≡ true in subst P (sym e) here
    | inr n ↦ h.lands i (sym (added_other a i n) ∙ has)
  ];
  apart = λ i j first second e. elim (cases_eq i k) [
    | inl i_is ↦ elim (cases_eq j k) [
      | inl j_is ↦ i_is ∙ sym j_is
      | inr n ↦ i_is ∙ sym (apart j (sym (added_other a j n) ∙ second) (sym e ∙ ap f i_is))
    ]
    | inr n ↦ elim (cases_eq j k) [
      | inl j_is ↦ apart i (sym (added_other a i n) ∙ first) (e ∙ ap f j_is) ∙ sym j_is
      | inr m ↦ h.apart i j (sym (added_other a i n) ∙ first) (sym (added_other a j m) ∙ second) e
    ]
  ];
}

-- where the rights are as many as the crowd, no other lands on one of them
pub none_else : (crowd k rights : ℕ) (f : ℕ → ℕ) → Injects crowd rights f → count_ones rights ≡ count_ones crowd → k < 16
    → has_number crowd k ≡ false → ((i : ℕ) → has_number crowd i ≡ true → f i ≡ f k → i ≡ k) → has_number rights (f k) ≡ true → ⊥
none_else crowd k rights f h same low outside apart here =
    let a = added_with crowd k (crowd + 2 ^ k) outside refl in
    let bound = pigeonhole (crowd + 2 ^ k) rights f (more_injects crowd k (crowd + 2 ^ k) rights f a h low here apart) in
    omega (arith, bound, added_ones a)

-- Sets of at most one number, told by what is left without the least; what may stand in a square.
use Rattle.std.proofs.lemmas.Nat.{and_le_r, and_mask}
use Rattle.std.proofs.Common.{◌+◌, ◌/◌, ◌%◌, ◌≡◌, ◌≢◌, ◌↔◌, ℕ, ◌-◌, ◌*◌, ◌^◌, ◌<◌, ◌==◌, if◌then◌else◌, bit_and, zero-mul, true, ◌&&◌, ◌||◌, not, inl, inr, refl, sym, ap, ◌∙◌, subst, arith}
use Rattle.std.proofs.lemmas.Bool.{both_ways, and_parts, and_from, or_cases, or_left, or_right, cases_eq, eq-eqb, ne_eqb, false_from_ne_true, not_from_false}
use Rattle.number_sets.specs.Sets.{has_number, IsSingle}
use Rattle.number_sets.proofs.Ends.{lowest_power}
use Rattle.number_sets.proofs.Members.{has_number-none, none_from_numbers, number_of_one, power_most, some_number}
use Rattle.line_steps.specs.Inner.LineSets.{IsStandingSet}
use Rattle.line_steps.proofs.OtherNumbers.{one_less, was_other}

-- ---- sets of at most one number

-- the bits where the rest has none: 2^16 - 1 is a mask of all
pub if_none_masked : (bits rest : ℕ) → bits < 65536 → rest < 65536
    → bit_and bits ((rest + 4294967295) % 4294967296 / 65536) ≡ bits * (if rest == 0 then 1 else 0)
if_none_masked bits rest small low =
    let mask = (rest + 4294967295) % 4294967296 / 65536 in
    elim (cases_eq rest 0) [
      | inl none ↦
          let ones : mask ≡ 2 ^ 16 - 1 = omega (arith, none) in
          ap (λ (n : ℕ). bit_and bits n) ones ∙ and_mask bits 16 ∙ rw (eq-eqb rest 0 none) (omega (arith, small))
      | inr some ↦
          let zero : mask ≡ 0 = omega (arith, some, low) in
          let nothing : bit_and bits mask ≡ 0 = omega (arith, and_le_r bits mask, zero) in
          nothing ∙ rw (ne_eqb rest 0 some) (omega arith)
    ]

-- a set has just one number if nothing is left of it without its least
pub single_by_rest : (set rest flag result v : ℕ) → set < 2 ^ 16 → (set ≢ 0 → rest ≡ bit_and set (set - 1)) → flag ≡ (if rest == 0 then 1 else 0)
    → result ≡ set * flag → (has_number result v ≡ true) ↔ IsSingle set v
single_by_rest set rest flag result v small rest_is flag_is result_is =
    let lacks : (n : ℕ) → n ≡ 0 → has_number n v ≡ true → ⊥ = λ n none has.
    both_ways (has_number n v) (ap (λ (m : ℕ). has_number m v) none ∙ has_number-none v) has in
    elim (cases_eq set 0) [
      | inl none ↦ (λ has. absurd (lacks result (result_is ∙ ap (λ (n : ℕ). n * flag) none ∙ zero-mul flag) has), λ h. absurd (lacks set none h.has))
      | inr some ↦
          let least = lowest_power set (omega (arith, some)) (omega (arith, small)) in
          elim (cases_eq rest 0) [
            | inl none ↦
                let one : flag ≡ 1 = rw (eq-eqb rest 0 none) at flag_is in
                let same : result ≡ set = omega (arith, result_is ∙ ap (λ (n : ℕ). set * n) one) in
                let whole : set ≡ 2 ^ least.0 = omega (arith, least.1, sym (rest_is some) ∙ none) in
                let only : (n : ℕ) → has_number set n ≡ true → n ≡ least.0 = λ n has.
                number_of_one least.0 n (ap (λ (m : ℕ). has_number m n) (sym whole) ∙ has) in (
                  λ has.
                      let here : has_number set v ≡ true = ap (λ (n : ℕ). has_number n v) (sym same) ∙ has in
                      record { has = here; alone = λ n there. only n there ∙ sym (only v here) },
                  λ h. ap (λ (n : ℕ). has_number n v) same ∙ h.has,
                )
            | inr more ↦
                let zero : flag ≡ 0 = rw (ne_eqb rest 0 more) at flag_is in
                let several : IsSingle set v → ⊥ = λ h.
                let power : set - bit_and set (set - 1) ≡ 2 ^ v = least.1 ∙ ap (λ (k : ℕ). 2 ^ k) (h.alone least.0 least.2) in
                let none : set - 2 ^ v ≡ 0 = none_from_numbers (set - 2 ^ v) (λ k. false_from_ne_true (has_number (set - 2 ^ v) k) (λ there.
                let was = was_other (set - 2 ^ v) v set k (one_less set v h.has) there in
                was.0 (h.alone k was.1))) in
                more (rest_is some ∙ omega (arith, power, none, power_most set v h.has, some)) in
                (λ has. absurd (lacks result (omega (arith, result_is ∙ ap (λ (n : ℕ). set * n) zero)) has), λ h. absurd (several h))
          ]
    ]

-- the set of what may stand in a square: its only number where one is left, or any where several are
pub standing_by_rest : (all left rest flag few result : ℕ) → left < 2 ^ 16 → (left ≢ 0 → rest ≡ bit_and left (left - 1)) → (left ≡ 0 → rest ≡ 0)
    → flag ≡ (if rest == 0 then 1 else 0) → few ≡ all * flag
    → ((v : ℕ) → has_number result v ≡ ((has_number all v && not (has_number few v)) || has_number left v)) → IsStandingSet all left result
standing_by_rest all left rest flag few result small rest_is none_is flag_is few_is result_is sub v =
    let own = has_number left v in
    let single : (n : ℕ) → (has_number (left * flag) n ≡ true) ↔ IsSingle left n = λ n.
    single_by_rest left rest flag (left * flag) n small rest_is flag_is refl in
    elim (cases_eq rest 0) [
      | inl zero ↦
          let one : flag ≡ 1 = rw (eq-eqb rest 0 zero) at flag_is in
          let same : left * flag ≡ left = omega (arith, ap (λ (n : ℕ). left * n) one) in
          let only : (n : ℕ) → has_number left n ≡ true → IsSingle left n = λ n has. (single n).0 (ap (λ (m : ℕ). has_number m n) same ∙ has) in
          let few_all : few ≡ all = omega (arith, few_is ∙ ap (λ (n : ℕ). all * n) one) in (
            λ has. elim (or_cases (has_number all v && not (has_number few v)) own (sym (result_is v) ∙ has)) [
              | inl out ↦
                  let both = and_parts (has_number all v) (not (has_number few v)) out in
                  absurd (both_ways (not (has_number few v)) (ap not (ap (λ (n : ℕ). has_number n v) few_all ∙ both.0)) both.1)
              | inr here ↦ (sub v here, λ alone none. none v here)
            ],
            λ h. result_is v ∙ or_right (has_number all v && not (has_number few v)) own (elim (cases_eq left 0) [
              | inl empty ↦
                  let nothing : (n : ℕ) → has_number left n ≡ true → ⊥ = λ n has.
                  both_ways (has_number left n) (ap (λ (m : ℕ). has_number m n) empty ∙ has_number-none n) has in
                  let low : v ≡ 0 = h.1 0 (λ n has. absurd (nothing n has)) in
                  let high : v ≡ 1 = h.1 1 (λ n has. absurd (nothing n has)) in
                  absurd (omega (arith, low, high))
              | inr some ↦
                  let n = some_number left some small in
                  subst (λ (m : ℕ). has_number left m ≡ true) (sym (h.1 n.0 (only n.0 n.1).alone)) n.1
            ]),
          )
      | inr more ↦
          let zero : flag ≡ 0 = rw (ne_eqb rest 0 more) at flag_is in
          let some : left ≢ 0 = λ empty. more (none_is empty) in
          let lost : left * flag ≡ 0 = omega (arith, ap (λ (n : ℕ). left * n) zero) in
          let few_none : few ≡ 0 = omega (arith, few_is ∙ ap (λ (n : ℕ). all * n) zero) in
          let several : (alone : ℕ) → ((n : ℕ) → has_number left n ≡ true → n ≡ alone) → ⊥ = λ alone none.
          let n = some_number left some small in
          let has : has_number left alone ≡ true = subst (λ (m : ℕ). has_number left m ≡ true) (none n.0 n.1) n.1 in
          let there = (single alone).1 (record { has = has; alone = none }) in
          both_ways (has_number (left * flag) alone) (ap (λ (m : ℕ). has_number m alone) lost ∙ has_number-none alone) there in (
            λ has. elim (or_cases (has_number all v && not (has_number few v)) own (sym (result_is v) ∙ has)) [
              | inl out ↦ ((and_parts (has_number all v) (not (has_number few v)) out).0, λ alone none. absurd (several alone none))
              | inr here ↦ (sub v here, λ alone none. absurd (several alone none))
            ],
            λ h. result_is v ∙ or_left (has_number all v && not (has_number few v)) own (and_from (has_number all v) (not (has_number few v)) h.0
                (not_from_false (has_number few v) (ap (λ (m : ℕ). has_number m v) few_none ∙ has_number-none v))),
          )
    ]

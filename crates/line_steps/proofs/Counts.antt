-- How many numbers sets have.
use Rattle.std.proofs.Common.{◌≡◌, ◌≢◌, ℕ, suc, ◌-◌, ◌^◌, ◌<◌, ◌≤◌, true, count_ones, sym, ◌∙◌, arith}
use Rattle.std.proofs.lemmas.Bool.{false_from_ne_true, true_from_ne_false}
use Rattle.std.proofs.lemmas.Nat.{ones_le_self}
use Rattle.number_sets.specs.Sets.{has_number, IsSubset}
use Rattle.number_sets.proofs.Members.{below_from_numbers, some_number}
use Rattle.number_sets.proofs.OneMore.{added_other, added_ones}
use Rattle.line_steps.proofs.OtherNumbers.{one_less}
use Rattle.trail_solver.proofs.Pigeonholes.{none_else, pigeonhole}

-- a set has no more numbers than one that has them all
pub within_counts : (few many : ℕ) → ((v : ℕ) → has_number few v ≡ true → v < 16) → IsSubset few many → count_ones few ≤ count_ones many
within_counts few many low sub = pigeonhole few many (λ i. i) (record { small = low; lands = sub; apart = λ i j first second e. e })

-- a set with no more numbers than one of its subsets has none but those of the subset
pub no_more : (union values v : ℕ) → ((n : ℕ) → has_number union n ≡ true → n < 16) → IsSubset union values → count_ones values ≡ count_ones union
    → v < 16 → has_number values v ≡ true → has_number union v ≡ true
no_more union values v small sub same low has =
    true_from_ne_false (has_number union v) (λ lacks. none_else union v values (λ i. i)
    (record { small = small; lands = sub; apart = λ i j first second e. e }) same low lacks (λ i there e. e) has)

-- a set with a count above 0 has a number
pub some_counted : (set n : ℕ) → count_ones set ≡ suc n → ((k : ℕ) → has_number set k ≡ true → k < 16) → (k : ℕ) × (has_number set k ≡ true)
some_counted set n count small =
    some_number set (λ e. omega (arith, count, ones_le_self set))
    (below_from_numbers set 16 (λ j far. false_from_ne_true (has_number set j) (λ h. omega (arith, small j h))))

-- a set with two numbers has more than one
pub several_counted : (set u v : ℕ) → u ≢ v → has_number set u ≡ true → has_number set v ≡ true → 1 < count_ones set
several_counted set u v apart first second =
    let a = one_less set u first in
    let there : has_number (set - 2 ^ u) v ≡ true = sym (added_other a v (λ e. apart (sym e))) ∙ second in
    let b = one_less (set - 2 ^ u) v there in
    omega (arith, added_ones a, added_ones b)

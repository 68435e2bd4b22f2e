-- Lines of different numbers: as many of them from 1 to w as there are squares are each number once.
use Rattle.std.proofs.Common.{◌≡◌, ◌≢◌, ℕ, zero, suc, ◌+◌, ◌<◌, ◌≤◌, true, List, [], ◌∷◌, length, get_or, inl, inr, sym, ◌∙◌, arith, eqb, cond}
use Rattle.std.specs.List.{All, AllPairs, list_any}
use Rattle.std.proofs.lemmas.Bool.{cases_eq, cases_lt, cases_Bool, eqb-true, eq-eqb, ne_eqb, false≢true}
use Rattle.std.proofs.lemmas.Bool.Decides.{Decides-eqb}
use Rattle.std.proofs.lemmas.List.{get_or_default}
use Rattle.std.proofs.lemmas.List.Kept.{AllPairs-cons}
use Rattle.std.proofs.lemmas.List.Sums.{sum_by-cons}
use Rattle.std.proofs.lemmas.Map.Made.{IsDistinct-from_AllPairs}
use Rattle.std.proofs.lemmas.Map.Steps.{length-le_from_distinct_below}
use Rattle.latin_board.specs.Squares.{HasEachOnce, times_in}
use Rattle.latin_board.proofs.Counts.{once_at_least, place_of_counted}

-- no two numbers of the list are the same
abbrev pub AreApart : List ℕ → Type 0
AreApart xs = AllPairs (λ a b. a ≢ b) xs

-- in a list of different numbers each number stands once at most
once_at_most : (v : ℕ) (xs : List ℕ) → AreApart xs → times_in v xs ≤ 1
once_at_most v [] apart = omega arith
once_at_most v (x ∷ xs) apart =
    let step = sum_by-cons (λ n. cond (eqb n v) 1 0) x xs in
    elim (cases_eq x v) [
      | inl here ↦ elim (cases_lt 0 (times_in v xs)) [
        | inl again ↦
            let (k, inside, is) = place_of_counted v xs again in
            absurd (apart 0 (suc k) 0 (omega arith) (omega (arith, inside)) (here ∙ sym is))
        | inr none ↦ rw (step, eq-eqb x v here) (omega arith)
      ]
      | inr other ↦
          let rest = once_at_most v xs (λ i j d order low. apart (suc i) (suc j) d (omega arith) (omega arith)) in
          rw (step, ne_eqb x v other) (omega arith)
    ]

-- what holds of all of a list holds of what is in it
within_all : (P : ℕ → Type 0) (xs : List ℕ) (q : ℕ) → All P xs → list_any (eqb q) xs ≡ true → P q
within_all P [] q all e = absurd (false≢true e)
within_all P (x ∷ xs) q all e = elim (cases_Bool (eqb q x)) [
  | inl here ↦ rw (eqb-true q x here) (all 0 0 (omega arith))
  | inr other ↦ within_all P xs q (λ k d low. all (suc k) d (omega arith)) (rw other at e)
]

-- different numbers from 1 to w, among which one from 1 to w is lacking, are fewer than w
some_missing : (w v : ℕ) (xs : List ℕ) → 1 ≤ v → v ≤ w → All (λ n. (1 ≤ n) × (n ≤ w)) xs → AreApart xs
    → ((k d : ℕ) → k < length xs → v ≢ get_or xs k d) → length xs < w
some_missing w v xs low high within apart missing =
    let more = AllPairs-cons (λ a b. a ≢ b) v xs missing apart in
    let all = AllPairs-cons (λ a b. a ≢ b) 0 (v ∷ xs) (λ k d inside. none k d inside) more in
    let few = length-le_from_distinct_below (0 ∷ v ∷ xs) (w + 1) (IsDistinct-from_AllPairs Decides-eqb (0 ∷ v ∷ xs) all)
    (λ q e. within_all (λ n. n < w + 1) (0 ∷ v ∷ xs) q (λ k d inside. small k d inside) e) in
    omega arith
  where
    none : (k d : ℕ) → k < length (v ∷ xs) → 0 ≢ get_or (v ∷ xs) k d
    none zero d inside e = omega arith
    none (suc k) d inside e = let n = within k d (omega arith) in omega (arith, n.0)

    small : (k d : ℕ) → k < length (0 ∷ v ∷ xs) → get_or (0 ∷ v ∷ xs) k d < w + 1
    small zero d inside = omega arith
    small (suc zero) d inside = omega arith
    small (suc (suc k)) d inside = let n = within k d (omega arith) in omega (arith, n.1)

-- w different numbers from 1 to w have each number once
pub each_once : (w : ℕ) (line : List ℕ) → length line ≡ w → All (λ n. (1 ≤ n) × (n ≤ w)) line → AreApart line → HasEachOnce w line
each_once w line count within apart v low high =
    elim (cases_lt 0 (times_in v line)) [
      | inl some ↦ omega (arith, once_at_most v line apart)
      | inr none ↦ absurd (omega (
        arith,
        some_missing w v line low high within apart (λ k d inside same.
            omega (arith, once_at_least v line k inside (get_or_default line k 0 d inside ∙ sym same))),
      ))
    ]

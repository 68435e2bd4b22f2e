-- How often a number stands in a list, by the places where it stands.
use Rattle.std.proofs.Common.{◌≡◌, ℕ, zero, suc, ◌+◌, ◌<◌, ◌≤◌, true, List, [], ◌∷◌, length, get_or, eqb, cond, map, inl, inr, refl, sym, arith}
use Rattle.std.specs.List.{range_with_len, list_any}
use Rattle.std.proofs.lemmas.Bool.{cases_eq, eq-eqb, ne_eqb, or_left, or_right}
use Rattle.std.proofs.lemmas.List.FromFn.{sum_by-map-range_with_len_more}
use Rattle.std.proofs.lemmas.List.Sums.{sum_by-cons}
use Rattle.latin_board.specs.Squares.{times_in}

-- how often v stands in a list that is made by places, with one place more
times_in_more : (f : ℕ → ℕ) (v k : ℕ)
    → times_in v (map f (range_with_len 0 (k + 1))) ≡ times_in v (map f (range_with_len 0 k)) + cond (eqb (f k) v) 1 0
times_in_more f v k = sum_by-map-range_with_len_more (λ x. cond (eqb x v) 1 0) f 0 k k (omega arith)

pub times_in_more_yes : (f : ℕ → ℕ) (v k times : ℕ) → times ≡ times_in v (map f (range_with_len 0 k)) → f k ≡ v
    → times + 1 ≡ times_in v (map f (range_with_len 0 (k + 1)))
times_in_more_yes f v k times so_far here = rw (times_in_more f v k, eq-eqb (f k) v here) (omega arith)

pub times_in_more_no : (f : ℕ → ℕ) (v k times : ℕ) → times ≡ times_in v (map f (range_with_len 0 k)) → (f k ≡ v → ⊥)
    → times ≡ times_in v (map f (range_with_len 0 (k + 1)))
times_in_more_no f v k times so_far here = rw (times_in_more f v k, ne_eqb (f k) v here) (omega arith)

-- a value at the head of a list is in it once more
pub times_in_head : (v x : ℕ) (xs : List ℕ) → x ≡ v → times_in v (x ∷ xs) ≡ 1 + times_in v xs
times_in_head v x xs here = rw (sum_by-cons (λ n. cond (eqb n v) 1 0) x xs, eq-eqb x v here) refl

times_in_tail : (v x : ℕ) (xs : List ℕ) → times_in v xs ≤ times_in v (x ∷ xs)
times_in_tail v x xs = rw (sum_by-cons (λ n. cond (eqb n v) 1 0) x xs) (omega arith)

-- another value at the head makes no difference
pub times_in_other : (v x : ℕ) (xs : List ℕ) → (x ≡ v → ⊥) → times_in v (x ∷ xs) ≡ times_in v xs
times_in_other v x xs other = rw (sum_by-cons (λ n. cond (eqb n v) 1 0) x xs, ne_eqb x v other) (omega arith)

-- a number that stands at a place stands there once at least
pub once_at_least : (v : ℕ) (xs : List ℕ) (i : ℕ) → i < length xs → get_or xs i 0 ≡ v → 1 ≤ times_in v xs
once_at_least v [] i within here = absurd (omega arith)
once_at_least v (x ∷ xs) zero within here = omega (arith, times_in_head v x xs here)
once_at_least v (x ∷ xs) (suc i) within here = omega (arith, times_in_tail v x xs, once_at_least v xs i (omega arith) here)

-- a number that stands at two places is counted twice
pub twice_at_least : (v : ℕ) (xs : List ℕ) (i j : ℕ) → i < j → j < length xs → get_or xs i 0 ≡ v → get_or xs j 0 ≡ v → 2 ≤ times_in v xs
twice_at_least v [] i j before within first second = absurd (omega arith)
twice_at_least v (x ∷ xs) i zero before within first second = absurd (omega arith)
twice_at_least v (x ∷ xs) zero (suc j) before within first second =
    omega (arith, times_in_head v x xs first, once_at_least v xs j (omega arith) second)
twice_at_least v (x ∷ xs) (suc i) (suc j) before within first second =
    omega (arith, times_in_tail v x xs, twice_at_least v xs i j (omega arith) (omega arith) first second)

-- a number that is counted stands somewhere
pub place_of_counted : (v : ℕ) (xs : List ℕ) → 1 ≤ times_in v xs → (k : ℕ) × (k < length xs) × (get_or xs k 0 ≡ v)
place_of_counted v [] counted = absurd (omega arith)
place_of_counted v (x ∷ xs) counted =
    elim (cases_eq x v) [
      | inl here ↦ (0, omega arith, here)
      | inr other ↦
          let (k, inside, here) = place_of_counted v xs (omega (arith, times_in_other v x xs other)) in
          (suc k, omega arith, here)
    ]

-- what stands at a place is among the list
pub among_at : (v : ℕ) (xs : List ℕ) (i : ℕ) → i < length xs → get_or xs i 0 ≡ v → list_any (eqb v) xs ≡ true
among_at v [] i within here = absurd (omega arith)
among_at v (x ∷ xs) zero within here = or_left (eqb v x) (list_any (eqb v) xs) (eq-eqb v x (sym here))
among_at v (x ∷ xs) (suc i) within here = or_right (eqb v x) (list_any (eqb v) xs) (among_at v xs i (omega arith) here)

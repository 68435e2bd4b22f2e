-- A permutation of the numbers below n is an order of them, each at one place.
use Rattle.std.proofs.lemmas.Grind.{common_steps}
use Rattle.std.proofs.lemmas.Bool.Decides.{nat_tests}
use Rattle.std.proofs.Common.{◌≡◌, ℕ, zero, suc, ◌+◌, ◌<◌, ◌≤◌, List, [], ◌∷◌, ◌++◌, length, get_or, eqb, cond, map, All, IsPermutation, inl, inr, refl, sym, ◌∙◌, ap, arith, eq-eqb, subst, add-one}
use Rattle.std.specs.List.{range_with_len, refill}
use Rattle.std.proofs.Math.Seq.{take-append_seam}
use Rattle.std.proofs.lemmas.Bool.{cases_eq, cases_lt, ne_eqb}
use Rattle.std.proofs.lemmas.List.FromFn.{length-range_with_len, get_or-range_with_len, fill_by_all, map-range_with_len_more}
use Rattle.std.proofs.lemmas.List.Sorted.{All-permutation, length_permutation, sum_by-IsPermutation}
use Rattle.latin_board.specs.Squares.{times_in}
use Rattle.latin_board.proofs.Counts.{times_in_more_yes, times_in_more_no, twice_at_least, place_of_counted}
use Rattle.puzzle_gen.specs.Orders.{place_in, IsOrder}

-- a number that stands in a list stands at its place there, and not before
pub place_found : (x : ℕ) (xs : List ℕ) (k : ℕ) → k < length xs → get_or xs k 0 ≡ x
    → (place_in x xs ≤ k) × (get_or xs (place_in x xs) 0 ≡ x)
place_found x [] k within here = absurd (omega arith)
place_found x (y ∷ ys) zero within here = rw (eq-eqb x y (sym here)) (omega arith, here)
place_found x (y ∷ ys) (suc k) within here = grind (arith, nat_tests, cases_eq, eq-eqb, ne_eqb, (place_found x ys k))

-- ---- how often a value stands in a list that is made by places

none_so_far : (f : ℕ → ℕ) (v n : ℕ) → ((j : ℕ) → j < n → f j ≡ v → ⊥) → 0 ≡ times_in v (map f (range_with_len 0 n))
none_so_far f v zero none = refl
none_so_far f v (suc n) none =
    let None : ℕ → Type 0 = λ m. 0 ≡ times_in v (map f (range_with_len 0 m)) in
    subst None (add-one n)
    (times_in_more_no f v n 0 (none_so_far f v n (λ j below. none j (omega arith))) (none n (omega arith)))

-- a value that stands at just one place of a list that is made by places is there once
pub once_at : (f : ℕ → ℕ) (v k n : ℕ) → k < n → f k ≡ v → ((j : ℕ) → j < n → f j ≡ v → j ≡ k) → 1 ≡ times_in v (map f (range_with_len 0 n))
once_at f v k zero within here only = absurd (omega arith)
once_at f v k (suc n) within here only =
    let Once : ℕ → Type 0 = λ m. 1 ≡ times_in v (map f (range_with_len 0 m)) in
    subst Once (add-one n) (elim (cases_eq n k) [
      | inl last ↦
          times_in_more_yes f v n 0
          (none_so_far f v n (λ j below there. let same : j ≡ k = only j (omega arith) there in omega arith))
          (ap f last ∙ here)
      | inr other ↦
          times_in_more_no f v n 1
          (once_at f v k n (omega arith) here (λ j below. only j (omega arith)))
          (λ there. other (only n (omega arith) there))
    ])

-- the numbers below n are a list that is made by places
pub range_made : (n : ℕ) → range_with_len 0 n ≡ map (λ k. k) (range_with_len 0 n)
range_made n = grind (arith, common_steps, fill_by_all, length-range_with_len, get_or-range_with_len)

-- the numbers below n + 1 are those below n, and then n
pub range_more : (n : ℕ) → range_with_len 0 (n + 1) ≡ range_with_len 0 n ++ n ∷ []
range_more n =
    range_made (n + 1) ∙ map-range_with_len_more (λ k. k) 0 n n (omega arith) ∙ ap (λ (xs : List ℕ). xs ++ n ∷ []) (sym (range_made n))

range_once : (n v : ℕ) → v < n → 1 ≡ times_in v (range_with_len 0 n)
range_once n v below =
    let once : 1 ≡ times_in v (map (λ k. k) (range_with_len 0 n)) = once_at (λ k. k) v v n below refl (λ j less same. same) in
    once ∙ sym (ap (times_in v) (range_made n))

-- ---- orders

range_below : (n : ℕ) → All (λ i. i < n) (range_with_len 0 n)
range_below n = λ k d inside. grind (arith, nat_tests, length-range_with_len, get_or-range_with_len)

-- a list of the numbers below n, each once, is an order of them
pub order_of_permutation : (n : ℕ) (xs : List ℕ) → IsPermutation (range_with_len 0 n) xs → IsOrder n xs
order_of_permutation n xs same =
    let count : length xs ≡ n = length_permutation (range_with_len 0 n) xs same ∙ length-range_with_len 0 n in
    let below = All-permutation (λ i. i < n) (range_with_len 0 n) xs same (range_below n) in
    let once : (v : ℕ) → v < n → times_in v xs ≡ 1 = λ v small.
    sum_by-IsPermutation (λ x. cond (eqb x v) 1 0) (range_with_len 0 n) xs same ∙ sym (range_once n v small) in
    let found : (i : ℕ) → i < n → (place_in i xs < length xs) × (get_or xs (place_in i xs) 0 ≡ i) = λ i small.
    let (k, within, here) = place_of_counted i xs (omega (arith, once i small)) in
    let (early, there) = place_found i xs k within here in (omega (arith, within, early), there) in
    record {
      count = count;
      items = λ k small. below k 0 (omega arith);
      places = λ k small.
          let within : k < length xs = omega arith in
          let first = place_found (get_or xs k 0) xs k within refl in
          elim (cases_lt (place_in (get_or xs k 0) xs) k) [
            | inl before ↦ absurd (omega (
              arith,
              twice_at_least (get_or xs k 0) xs (place_in (get_or xs k 0) xs) k before within first.1 refl,
              once (get_or xs k 0) (below k 0 within),
            ))
            | inr here ↦ omega (arith, first.0)
          ];
      inside = λ i small. omega (arith, (found i small).0);
      back = λ i small. (found i small).1;
    }

-- ---- lists that are filled up in place

-- a range that was made has its length
pub length_range_made : (n : ℕ) (xs : List ℕ) → xs ≡ range_with_len 0 n → length xs ≡ n
length_range_made n xs made = ap length made ∙ length-range_with_len 0 n

-- a list that is refilled as a whole with one of its orders is that order
refill_whole : (first lent order : List ℕ) → lent ≡ first → IsPermutation lent order → refill (length first) first order ≡ order
refill_whole first lent order same moved = grind (arith, nat_tests, length_permutation, take-append_seam)

-- the first n numbers, refilled with an order of them, are a permutation of them
pub shuffled_whole : (n : ℕ) (first lent order : List ℕ) → first ≡ range_with_len 0 n → lent ≡ first → IsPermutation lent order
    → IsPermutation (range_with_len 0 n) (refill (length first) first order)
shuffled_whole n first lent order made same moved = grind (arith, nat_tests, refill_whole)

-- the refilled numbers, and what is left of the stream, are what is drawn for n numbers
pub shuffled_drawn : {S : Type 0} (drawn : ℕ → List ℕ × S) (n : ℕ) (first lent order : List ℕ) (left : S) → first ≡ range_with_len 0 n
    → lent ≡ first → IsPermutation lent order → (order, left) ≡ drawn (length lent) → (refill (length first) first order, left) ≡ drawn n
shuffled_drawn drawn n first lent order left made same moved drew = grind (arith, nat_tests, refill_whole, length_range_made)

-- Filling a table from the front.
use Rattle.std.proofs.Common.{◌≡◌, ℕ, ◌+◌, ◌-◌, ◌<◌, ◌≤◌, List, [], ◌∷◌, ◌++◌, take, drop, set, replicate, map, refl, sym, ap, ◌∙◌, arith, length-set, length, slice_index_or, inl, inr, slice_index, subst}
use Rattle.std.specs.List.{range_with_len}
use Rattle.std.proofs.Math.Seq.{take-add}
use Rattle.std.proofs.lemmas.List.{drop-drop, drop-replicate, take-replicate, length-replicate, take_more_set, drop-set-lt, get_or-set_same, get_or-set_other}
use Rattle.std.proofs.lemmas.List.FromFn.{map-range_with_len_more}
use Rattle.std.proofs.lemmas.Bool.{cases_eq}
use Rattle.line_steps.specs.Inner.Filled.{IsFilledTo}

-- an empty table is filled to the place 0
pub filled_begin : {X : Type 0} (empty : X) (n : ℕ) → IsFilledTo empty n 0 (replicate n empty)
filled_begin empty n = record { count = length-replicate n empty; within = omega arith; rest = ap (λ m. replicate m empty) (omega arith) }

-- a table that is filled to a place is filled k places further when these stay empty
pub filled_run : {X : Type 0} (empty : X) (n place k : ℕ) (xs : List X) → IsFilledTo empty n place xs → place + k ≤ n
    → IsFilledTo empty n (place + k) xs × (take (place + k) xs ≡ take place xs ++ replicate k empty)
filled_run empty n place k xs filled fits =
    let rest : drop (place + k) xs ≡ replicate (n - (place + k)) empty =
    sym (drop-drop k place xs)
    ∙ (ap (drop k) filled.rest ∙ (drop-replicate k (n - place) empty ∙ ap (λ m. replicate m empty) (omega arith))) in
    let front : take k (drop place xs) ≡ replicate k empty = ap (take k) filled.rest ∙ take-replicate k (n - place) empty (omega arith) in
    (record { count = filled.count; within = fits; rest = rest }, take-add place k xs ∙ ap (λ ys. take place xs ++ ys) front)

-- a table that is filled to a place is filled one further when that place is set
pub filled_one : {X : Type 0} (empty : X) (n place : ℕ) (v : X) (xs : List X) → IsFilledTo empty n place xs → place < n
    → IsFilledTo empty n (place + 1) (set xs place v) × (take (place + 1) (set xs place v) ≡ take place xs ++ v ∷ [])
filled_one empty n place v xs filled fits =
    let one = filled_run empty n place 1 xs filled (omega arith) in (
      record {
        count = length-set xs place v ∙ filled.count;
        within = omega arith;
        rest = drop-set-lt (place + 1) xs place v (omega arith) ∙ one.0.rest;
      },
      take_more_set xs place v (omega (arith, filled.count)),
    )

-- the first i places hold what f gives for them
pub record IsFilledBy {X : Type 0} (empty : X) (n : ℕ) (f : ℕ → X) (i : ℕ) (xs : List X) : Type 0 where
  pub filled : IsFilledTo empty n i xs
  pub front : take i xs ≡ map f (range_with_len 0 i)

-- an empty table holds what f gives in none of its places yet
pub filled_none : {X : Type 0} (empty : X) (n : ℕ) (f : ℕ → X) → IsFilledBy empty n f 0 (replicate n empty)
filled_none empty n f = record { filled = filled_begin empty n; front = refl }

-- when the next place is set to what f gives for it, the first i + 1 places hold what f gives
pub filled_more : {X : Type 0} (empty : X) (n : ℕ) (f : ℕ → X) (i : ℕ) (xs : List X) (v : X) → i < n → v ≡ f i
    → IsFilledBy empty n f i xs → IsFilledBy empty n f (i + 1) (set xs i v)
filled_more empty n f i xs v inside is h =
    let one = filled_one empty n i v xs h.filled inside in
    record { filled = one.0; front = rw (one.1, h.front, is, map-range_with_len_more f 0 i i (omega arith)) refl }

-- a property of each entry below n, and of the value that is set at n, holds of each entry below n + 1
pub entries_more : {X : Type 0} (P : ℕ → X → Type 0) (xs : List X) (n : ℕ) (v d : X) → n < length xs
    → ((k : ℕ) → k < n → P k (slice_index_or xs k d)) → P n v → (k : ℕ) → k < n + 1 → P k (slice_index_or (set xs n v) k d)
entries_more P xs n v d inside before here k low = elim (cases_eq k n) [
  | inl same ↦ rw (same, get_or-set_same xs n v d inside) here
  | inr other ↦ rw (get_or-set_other xs n k v d other) (before k (omega arith))
]

-- a property of a row's first k sets, and of the set that is put at k, holds of each of its first k + 1
pub row_next : (P : ℕ → ℕ → Type 0) (row : List ℕ) (k value : ℕ) → length row ≡ 9 → k < 9 → P k value → ((j : ℕ) → j < k → P j (slice_index row j))
    → (j : ℕ) → j < k + 1 → P j (slice_index (set row k value) j)
row_next P row k value count low here before = λ j less. elim (cases_eq j k) [
  | inl same ↦
      let in_list : k < length row = omega (arith, low, count) in
      let is : slice_index (set row k value) j ≡ value = ap (λ (i : ℕ). slice_index (set row k value) i) same ∙ get_or-set_same row k value 0 in_list in
      subst (λ (n : ℕ). P j n) (sym is) (subst (λ (i : ℕ). P i value) (sym same) here)
  | inr other ↦
      let is : slice_index (set row k value) j ≡ slice_index row j = get_or-set_other row k j value 0 other in
      subst (λ (n : ℕ). P j n) (sym is) (before j (omega (arith, less, other)))
]

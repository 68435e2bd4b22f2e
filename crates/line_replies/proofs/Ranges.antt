-- A list over a range of numbers, with one number more at its end.
use Rattle.std.proofs.Common.{◌≡◌, ℕ, zero, suc, ◌+◌, Bool, true, false, List, [], ◌∷◌, ◌++◌, map, filter, ap, sym, ◌∙◌, arith, append_assoc, append-nil, add-one}
use Rattle.std.specs.List.{range_with_len, flat_map}
use Rattle.std.proofs.lemmas.List.{map-append}
use Rattle.std.proofs.lemmas.List.Elements.{filter-append}
use Rattle.std.proofs.lemmas.Grind.{flat_map-append}

-- a range with one number more has this number at its end
range_snoc : (a m : ℕ) → range_with_len a (suc m) ≡ range_with_len a m ++ (a + m) ∷ []
range_snoc a zero = let e : a ≡ a + 0 = omega arith in ap (λ k. k ∷ []) e
range_snoc a (suc m) =
    let e : a + 1 + m ≡ a + suc m = omega arith in
    ap (λ ks. a ∷ ks) (range_snoc (a + 1) m ∙ ap (λ k. range_with_len (a + 1) m ++ k ∷ []) e)

pub range_more : (a m n j : ℕ) → n ≡ m + 1 → a + m ≡ j → range_with_len a n ≡ range_with_len a m ++ j ∷ []
range_more a m n j e h =
    ap (λ k. range_with_len a k) (e ∙ add-one m) ∙ range_snoc a m ∙ ap (λ k. range_with_len a m ++ k ∷ []) h

-- the lists that a function gives along a range, after a front, with the list of one number more at the end
pub flat_map_onto : {X : Type 0} (f : ℕ → List X) (front xs ys : List X) (a m n j : ℕ) → n ≡ m + 1 → a + m ≡ j
    → xs ≡ front ++ flat_map f (range_with_len a m) → ys ≡ xs ++ f j → ys ≡ front ++ flat_map f (range_with_len a n)
flat_map_onto f front xs ys a m n j e h old more =
    let last : flat_map f (range_with_len a n) ≡ flat_map f (range_with_len a m) ++ f j
    = rw (range_more a m n j e h) (flat_map-append f (range_with_len a m) (j ∷ []) ∙ rw append-nil) in
    more ∙ (rw (old, last, append_assoc))

-- the values of a function along a range, after a front, with the value of one number more at the end
pub map_onto : {X : Type 0} (f : ℕ → X) (front xs ys : List X) (a m n j : ℕ) → n ≡ m + 1 → a + m ≡ j
    → xs ≡ front ++ map f (range_with_len a m) → ys ≡ xs ++ f j ∷ [] → ys ≡ front ++ map f (range_with_len a n)
map_onto f front xs ys a m n j e h old more =
    let last : map f (range_with_len a n) ≡ map f (range_with_len a m) ++ f j ∷ []
    = rw (range_more a m n j e h) (map-append f (range_with_len a m) (j ∷ [])) in
    more ∙ (rw (old, last, append_assoc))

-- the values at the numbers of a range that pass a test, with that of one number more, which passes
pub filter_kept : {X : Type 0} (f : ℕ → X) (p : ℕ → Bool) (xs ys : List X) (a m n j : ℕ) → n ≡ m + 1 → a + m ≡ j
    → p j ≡ true → xs ≡ map f (filter p (range_with_len a m)) → ys ≡ xs ++ f j ∷ [] → ys ≡ map f (filter p (range_with_len a n))
filter_kept f p xs ys a m n j e h passes old more =
    let one : filter p (j ∷ []) ≡ j ∷ [] = rw passes in
    more ∙ (rw (old, range_more a m n j e h, filter-append p (range_with_len a m) (j ∷ []), one, map-append))

-- the values at the numbers of a range that pass a test are the same with one number more that doesn't pass
pub filter_dropped : {X : Type 0} (f : ℕ → X) (p : ℕ → Bool) (xs ys : List X) (a m n j : ℕ) → n ≡ m + 1 → a + m ≡ j
    → p j ≡ false → xs ≡ map f (filter p (range_with_len a m)) → ys ≡ xs → ys ≡ map f (filter p (range_with_len a n))
filter_dropped f p xs ys a m n j e h fails old more =
    let none : filter p (j ∷ []) ≡ [] = rw fails in
    more ∙ (rw (old, range_more a m n j e h, filter-append p (range_with_len a m) (j ∷ []), none, append-nil))

-- the lists that a function gives along a range, after two fronts, with that of one number more at the end
pub flat_map_behind : {X : Type 0} (f : ℕ → List X) (before front xs ys : List X) (a m n j : ℕ) → n ≡ m + 1 → a + m ≡ j
    → xs ≡ before ++ (front ++ flat_map f (range_with_len a m)) → ys ≡ xs ++ f j
    → ys ≡ before ++ (front ++ flat_map f (range_with_len a n))
flat_map_behind f before front xs ys a m n j e h old more =
    flat_map_onto f (before ++ front) xs ys a m n j e h (old ∙ sym (append_assoc before front (flat_map f (range_with_len a m)))) more
    ∙ append_assoc before front (flat_map f (range_with_len a n))

-- Lists of pairs: one pair more at the end, one less, and how long a list without repeats can be.
use Rattle.std.proofs.Common.{◌≡◌, ℕ, ◌+◌, ◌-◌, ◌*◌, ◌<◌, ◌≤◌, eqb, Bool, true, false, ◌&&◌, ◌||◌, List, [], ◌∷◌, ◌++◌, length, map, refl, sym, ap, ◌∙◌, subst, ⊎_elim, arith, eq-eqb, eqb-true, ne_eqb}
use Rattle.std.specs.List.{list_any, AllByRecursion, IsDistinct}
use Rattle.std.proofs.lemmas.Bool.{and_parts, and_from, or_parts, or_from, or_left, or_right, or_cases, false_from_ne_true, both_ways}
use Rattle.std.proofs.Math.Bool.{or-false}
use Rattle.std.proofs.lemmas.Map.Keys.{IsDistinct-cons}
use Rattle.std.proofs.lemmas.Map.Steps.{length-le_from_distinct_below}
use Rattle.std.proofs.lemmas.Nat.{mul-add-lt, same_from_place}
use Rattle.std.proofs.lemmas.List.{length-map}
use Rattle.std.proofs.lemmas.List.Folds.{list_any-append}
use Rattle.trail_solver.specs.Pairs.{IsPair, AreApart, has_pair}

-- the test of two pairs for equality
abbrev pub same_pair : ℕ → ℕ → ℕ × ℕ → Bool
same_pair cell value p = eqb cell p.0 && eqb value p.1

-- where the test of two pairs holds, both parts are the same
pub pair_from_test : (a b c d : ℕ) → (eqb a b && eqb c d) ≡ true → (a ≡ b) × (c ≡ d)
pair_from_test a b c d h =
    let parts = and_parts (eqb a b) (eqb c d) h in (eqb-true a b parts.0, eqb-true c d parts.1)

-- where both parts are the same, the test of two pairs holds
pub test_from_pair : (a b c d : ℕ) → a ≡ b → c ≡ d → (eqb a b && eqb c d) ≡ true
test_from_pair a b c d h k = and_from (eqb a b) (eqb c d) (eq-eqb a b h) (eq-eqb c d k)

no_pair_turned : (a b c d : ℕ) → (eqb a b && eqb c d) ≡ false → (eqb b a && eqb d c) ≡ false
no_pair_turned a b c d h =
    false_from_ne_true (eqb b a && eqb d c) (λ e. let p = pair_from_test b a d c e in both_ways (eqb a b && eqb c d) h (test_from_pair a b c d (sym p.0) (sym p.1)))

-- a list with a pair more after has what it had, and that pair
pub has_pair-push : (ps : List (ℕ × ℕ)) (p : ℕ × ℕ) (cell value : ℕ)
    → has_pair (ps ++ p ∷ []) cell value ≡ (has_pair ps cell value || same_pair cell value p)
has_pair-push [] p cell value = or-false (same_pair cell value p)
has_pair-push (q ∷ qs) p cell value =
    ap (λ b. same_pair cell value q || b) (has_pair-push qs p cell value) ∙ or_assoc (same_pair cell value q) (has_pair qs cell value) (same_pair cell value p)
  where
    or_assoc : (x y z : Bool) → (x || (y || z)) ≡ ((x || y) || z)
    or_assoc true y z = refl
    or_assoc false y z = refl

-- a new pair at the end leaves a list without repeats
pub apart_push : (ps : List (ℕ × ℕ)) (p : ℕ × ℕ) → AreApart ps → has_pair ps p.0 p.1 ≡ false → AreApart (ps ++ p ∷ [])
apart_push [] p a n = (refl, tt)
apart_push (q ∷ qs) p a n =
    let parts = or_parts (same_pair p.0 p.1 q) (has_pair qs p.0 p.1) n in
    (has_pair-push qs p q.0 q.1 ∙ or_from (has_pair qs q.0 q.1) (same_pair q.0 q.1 p) a.0 (no_pair_turned p.0 q.0 p.1 q.1 parts.0), apart_push qs p a.1 parts.1)

-- a front of a list without repeats has no repeats
pub apart_append : (ps qs : List (ℕ × ℕ)) → AreApart (ps ++ qs) → AreApart ps
apart_append [] qs a = tt
apart_append (p ∷ ps) qs a =
    let parts = or_parts (has_pair ps p.0 p.1) (has_pair qs p.0 p.1) (sym (list_any-append (same_pair p.0 p.1) ps qs) ∙ a.0) in
    (parts.0, apart_append ps qs a.1)

-- a front of a list without repeats has none of the pairs that come after it
pub apart_absent : (ps qs : List (ℕ × ℕ)) → AreApart (ps ++ qs) → (c v : ℕ) → has_pair qs c v ≡ true → has_pair ps c v ≡ false
apart_absent [] qs a c v h = refl
apart_absent (p ∷ ps) qs a c v h =
    let parts = or_parts (has_pair ps p.0 p.1) (has_pair qs p.0 p.1) (sym (list_any-append (same_pair p.0 p.1) ps qs) ∙ a.0) in
    or_from (same_pair c v p) (has_pair ps c v)
    (false_from_ne_true (same_pair c v p) (λ same.
    let e = pair_from_test c p.0 v p.1 same in
    let P : ℕ → Type 0 = λ i. has_pair qs i v ≡ true in
    let Q : ℕ → Type 0 = λ i. has_pair qs p.0 i ≡ true in
    both_ways (has_pair qs p.0 p.1) parts.1 (subst Q e.1 (subst P e.0 h))))
    (apart_absent ps qs a.1 c v h)

-- a number for each pair of the size, below w * w * w
abbrev pair_number : ℕ → ℕ × ℕ → ℕ
pair_number w p = p.0 * w + (p.1 - 1)

-- each pair of the list is one of the size
abbrev AreOf : ℕ → List (ℕ × ℕ) → Type 0
AreOf w ps = (cell value : ℕ) → has_pair ps cell value ≡ true → IsPair w cell value

first_of_list : (w : ℕ) (p : ℕ × ℕ) (ps : List (ℕ × ℕ)) → AreOf w (p ∷ ps) → IsPair w p.0 p.1
first_of_list w p ps h =
    h p.0 p.1 (or_left (same_pair p.0 p.1 p) (has_pair ps p.0 p.1) (test_from_pair p.0 p.0 p.1 p.1 refl refl))

rest_of_list : (w : ℕ) (p : ℕ × ℕ) (ps : List (ℕ × ℕ)) → AreOf w (p ∷ ps) → AreOf w ps
rest_of_list w p ps h cell value k = h cell value (or_right (same_pair cell value p) (has_pair ps cell value) k)

other_pair_numbers : (w : ℕ) (p : ℕ × ℕ) (ps : List (ℕ × ℕ)) → IsPair w p.0 p.1 → AreOf w ps → has_pair ps p.0 p.1 ≡ false
    → AllByRecursion (λ y. eqb (pair_number w p) y ≡ false) (map (pair_number w) ps)
other_pair_numbers w p [] i h n = tt
other_pair_numbers w p (q ∷ qs) i h n =
    let parts = or_parts (same_pair p.0 p.1 q) (has_pair qs p.0 p.1) n in
    let j = first_of_list w q qs h in (
      ne_eqb (pair_number w p) (pair_number w q) (λ e.
          let low : p.1 - 1 < w = omega (arith, i.low, i.high) in
          let low' : q.1 - 1 < w = omega (arith, j.low, j.high) in
          let s = same_from_place p.0 (p.1 - 1) q.0 (q.1 - 1) w low low' e in
          let v : p.1 ≡ q.1 = omega (arith, s.1, i.low, j.low) in
          both_ways (same_pair p.0 p.1 q) parts.0 (test_from_pair p.0 q.0 p.1 q.1 s.0 v)),
      other_pair_numbers w p qs i (rest_of_list w q qs h) parts.1,
    )

distinct_nil : IsDistinct eqb []
unfolding IsDistinct
distinct_nil = tt

pair_numbers_apart : (w : ℕ) (ps : List (ℕ × ℕ)) → AreOf w ps → AreApart ps → IsDistinct eqb (map (pair_number w) ps)
pair_numbers_apart w [] h a = distinct_nil
pair_numbers_apart w (p ∷ ps) h a =
    IsDistinct-cons eqb (pair_number w p) (map (pair_number w) ps) (other_pair_numbers w p ps (first_of_list w p ps h) (rest_of_list w p ps h) a.0) (pair_numbers_apart w ps (rest_of_list w p ps h) a.1)

pair_numbers_below : (w : ℕ) (ps : List (ℕ × ℕ)) → AreOf w ps → (q : ℕ) → list_any (eqb q) (map (pair_number w) ps) ≡ true → q < w * w * w
pair_numbers_below w [] h q e = absurd (both_ways false refl e)
pair_numbers_below w (p ∷ ps) h q e =
    let i = first_of_list w p ps h in
    let low : p.1 - 1 < w = omega (arith, i.low, i.high) in
    let here = mul-add-lt p.0 w (p.1 - 1) (w * w) i.inside low in
    ⊎_elim (λ s. let is = eqb-true q (pair_number w p) s in grind (arith, is, here)) (λ s. pair_numbers_below w ps (rest_of_list w p ps h) q s) (or_cases (eqb q (pair_number w p)) (list_any (eqb q) (map (pair_number w) ps)) e)

-- a list of the size's pairs without repeats is at most as long as there are pairs
pub length-le_from_apart : (w : ℕ) (ps : List (ℕ × ℕ)) → AreOf w ps → AreApart ps → length ps ≤ w * w * w
length-le_from_apart w ps h a =
    let n = length-le_from_distinct_below (map (pair_number w) ps) (w * w * w) (pair_numbers_apart w ps h a) (pair_numbers_below w ps h) in
    rw length-map at n

-- Orders of some items, put together of orders of the givens and of the clues (or signs).
use Rattle.std.proofs.lemmas.Bool.Decides.{nat_tests}
use Rattle.std.proofs.Common.{◌≡◌, ℕ, zero, suc, ◌+◌, ◌-◌, ◌/◌, ◌<◌, ◌≤◌, ◌==◌, List, [], ◌∷◌, ◌++◌, length, map, take, drop, slice_index, IsPermutation, inl, inr, refl, sym, ◌∙◌, ap, subst, arith, append-nil, append_assoc, length-append, eq-eqb}
use Rattle.std.proofs.Math.ListN.{get_or-append}
use Rattle.std.proofs.lemmas.List.{take-append-drop, length-map, map-append}
use Rattle.std.specs.List.{range_with_len}
use Rattle.std.proofs.lemmas.Bool.{cases_Bool, cases_eq, eqb-true, ne_eqb}
use Rattle.std.proofs.lemmas.List.Sorted.{IsPermutation-append_comm, IsPermutation-append, IsPermutation-append_right, IsPermutation-map, IsPermutation-trans}
use Rattle.puzzle_gen.specs.Orders.{place_in, IsOrder}
use Rattle.puzzle_gen.proofs.OrderPlaces.{order_of_permutation, range_more}
use Rattle.fair_games.specs.Pruned.{IsTrial, IsTried}
use Rattle.rand_core.specs.Stream.{Stream}
use Rattle.puzzle_gen.specs.SeededSquares.{drawn_order}
use Rattle.fair_games.specs.Draws.{drawn_trial, in_turn}
use Rattle.fair_games.specs.declared.trial.Trial.{Trial}
use Rattle.fair_games.specs.declared.trial.Trial.TheVariants.{GivensAlone, GivensFirst, HalfFirst}

-- ---- the beginning of an order

-- a number that is in a list has the same place in the list with more after it
place_front : (i : ℕ) (xs ys : List ℕ) → place_in i xs < length xs → place_in i (xs ++ ys) ≡ place_in i xs
place_front i [] ys inside = absurd (omega arith)
place_front i (x ∷ xs) ys inside = elim (cases_Bool (i == x)) [
  | inl here ↦ rw here refl
  | inr other ↦
      let place : place_in i (x ∷ xs) ≡ suc (place_in i xs) = rw other refl in
      rw other (ap suc (place_front i xs ys (omega (arith, inside, place))))
]

-- a number whose place in a list with more after it is below the list's length is in the list
place_back : (i : ℕ) (xs ys : List ℕ) → place_in i (xs ++ ys) < length xs → place_in i xs < length xs
place_back i [] ys inside = absurd (omega arith)
place_back i (x ∷ xs) ys inside = elim (cases_Bool (i == x)) [
  | inl here ↦ rw here (omega arith)
  | inr other ↦
      let place : place_in i (x ∷ (xs ++ ys)) ≡ suc (place_in i (xs ++ ys)) = rw other refl in
      let within : place_in i xs < length xs = place_back i xs ys (omega (arith, inside, place)) in
      rw other (omega (arith, within))
]

index_front : (xs ys : List ℕ) (k : ℕ) → k < length xs → slice_index (xs ++ ys) k ≡ slice_index xs k
index_front xs ys k inside = get_or-append xs ys 0 k inside

-- a number stands at its place
stands_there : (i : ℕ) (xs : List ℕ) → place_in i xs < length xs → slice_index xs (place_in i xs) ≡ i
stands_there i [] inside = absurd (omega arith)
stands_there i (x ∷ xs) inside = elim (cases_Bool (i == x)) [
  | inl here ↦ rw here (sym (eqb-true i x here))
  | inr other ↦
      let place : place_in i (x ∷ xs) ≡ suc (place_in i xs) = rw other refl in
      rw other (stands_there i xs (omega (arith, inside, place)))
]

-- the beginning of an order of all items is an order of some items
pub trial_front : (n : ℕ) (xs ys : List ℕ) → IsOrder n (xs ++ ys) → IsTrial n xs
trial_front n xs ys order = grind (arith, nat_tests, length-append, index_front, place_front, place_back, stands_there)

-- ---- all items

map_zero : (xs : List ℕ) → map (λ i. 0 + i) xs ≡ xs
map_zero [] = refl
map_zero (x ∷ xs) =
    let e : 0 + x ≡ x = omega arith in ap (λ (y : ℕ). y ∷ map (λ i. 0 + i) xs) e ∙ ap (λ (ys : List ℕ). x ∷ ys) (map_zero xs)

-- the first m + n numbers are the first m and then the next n
range_both : (m n : ℕ) → range_with_len 0 (m + n) ≡ range_with_len 0 m ++ map (λ i. m + i) (range_with_len 0 n)
range_both m zero =
    let e : m + 0 ≡ m = omega arith in ap (range_with_len 0) e ∙ sym (append-nil (range_with_len 0 m))
range_both m (suc n) =
    let f : ℕ → ℕ = λ i. m + i in
    let e : m + suc n ≡ (m + n) + 1 = omega arith in
    let more : suc n ≡ n + 1 = omega arith in
    let end : map f (range_with_len 0 (suc n)) ≡ map f (range_with_len 0 n) ++ (m + n) ∷ [] =
    ap (λ (k : ℕ). map f (range_with_len 0 k)) more ∙ ap (map f) (range_more n) ∙ map-append f (range_with_len 0 n) (n ∷ []) in
    ap (range_with_len 0) e ∙ range_more (m + n) ∙ ap (λ (xs : List ℕ). xs ++ (m + n) ∷ []) (range_both m n)
    ∙ append_assoc (range_with_len 0 m) (map f (range_with_len 0 n)) ((m + n) ∷ [])
    ∙ ap (λ (xs : List ℕ). range_with_len 0 m ++ xs) (sym end)

-- the items that a trial doesn't try
abbrev left_out : Trial → List ℕ → List ℕ
left_out GivensAlone clues = clues
left_out GivensFirst clues = []
left_out HalfFirst clues = []

-- the items that a trial has, and those that it leaves out, are all items
moved : (trial : Trial) (m n : ℕ) (clues givens : List ℕ) → IsPermutation (range_with_len 0 m) clues → IsPermutation (range_with_len 0 n) givens
    → IsPermutation (range_with_len 0 (m + n)) (in_turn trial m clues givens ++ left_out trial clues)
moved trial m n clues givens first second = turn trial
  where
    further : List ℕ
    further = map (λ i. m + i) givens

    all : IsPermutation (range_with_len 0 (m + n)) (clues ++ further)
    all = subst (λ (xs : List ℕ). IsPermutation xs (clues ++ further)) (sym (range_both m n))
        (IsPermutation-append (range_with_len 0 m) clues (map (λ i. m + i) (range_with_len 0 n)) further first
        (IsPermutation-map (λ i. m + i) (range_with_len 0 n) givens second))

    turned : IsPermutation (range_with_len 0 (m + n)) (further ++ clues)
    turned = IsPermutation-trans (range_with_len 0 (m + n)) (clues ++ further) (further ++ clues) all (IsPermutation-append_comm clues further)

    half : ℕ
    half = m / 2

    halves : IsPermutation (range_with_len 0 (m + n)) ((take half clues ++ further) ++ drop half clues)
    halves = subst (IsPermutation (range_with_len 0 (m + n))) (sym (append_assoc (take half clues) further (drop half clues)))
        (IsPermutation-trans (range_with_len 0 (m + n)) (clues ++ further) (take half clues ++ (further ++ drop half clues)) all
        (subst (λ (xs : List ℕ). IsPermutation xs (take half clues ++ (further ++ drop half clues)))
        (sym (append_assoc (take half clues) (drop half clues) further) ∙ ap (λ (xs : List ℕ). xs ++ further) (take-append-drop half clues))
        (IsPermutation-append_right (take half clues) (drop half clues ++ further) (further ++ drop half clues)
        (IsPermutation-append_comm (drop half clues) further))))

    turn : (t : Trial) → IsPermutation (range_with_len 0 (m + n)) (in_turn t m clues givens ++ left_out t clues)
    turn GivensAlone = turned
    turn GivensFirst = subst (IsPermutation (range_with_len 0 (m + n))) (sym (append-nil (further ++ clues))) turned
    turn HalfFirst = subst (IsPermutation (range_with_len 0 (m + n))) (sym (append-nil ((take half clues ++ further) ++ drop half clues))) halves

-- the items that a trial puts together are an order of some items
pub trial_in_turn : (trial : Trial) (m n : ℕ) (clues givens : List ℕ) → IsPermutation (range_with_len 0 m) clues
    → IsPermutation (range_with_len 0 n) givens → IsTrial (m + n) (in_turn trial m clues givens)
trial_in_turn trial m n clues givens first second =
    trial_front (m + n) (in_turn trial m clues givens) (left_out trial clues)
    (order_of_permutation (m + n) (in_turn trial m clues givens ++ left_out trial clues) (moved trial m n clues givens first second))

-- ---- lists that are put together one after the other

pub put_two : (a b c first second : List ℕ) → a ≡ [] → b ≡ a ++ first → c ≡ b ++ map (λ i. 0 + i) second → c ≡ first ++ second
put_two a b c first second none one two = grind (arith, nat_tests, map_zero)

pub put_three : (a b c d first second third : List ℕ) → a ≡ [] → b ≡ a ++ map (λ i. 0 + i) first → c ≡ b ++ second → d ≡ c ++ map (λ i. 0 + i) third
    → d ≡ first ++ second ++ third
put_three a b c d first second third none one two three = grind (arith, nat_tests, map_zero)

-- an order that is put together from lists equal to two orders is put together from the orders
pub turn_made : (trial : Trial) (m : ℕ) (lent_clues lent_givens clues givens order : List ℕ) → length clues ≡ m → lent_clues ≡ clues
    → lent_givens ≡ givens → order ≡ in_turn trial (length lent_clues) lent_clues lent_givens → order ≡ in_turn trial m clues givens
turn_made trial m lent_clues lent_givens clues givens order count first second put = grind (arith, nat_tests)

-- an order put together from two drawn ones is the trial's draw, with the stream that is left
pub turn_drawn : (trial : Trial) (m n : ℕ) (s middle end : Stream) (clues givens order : List ℕ) → (givens, middle) ≡ drawn_order n s
    → (clues, end) ≡ drawn_order m middle → order ≡ in_turn trial m clues givens → (order, end) ≡ drawn_trial trial m n s
turn_drawn trial m n s middle end clues givens order first second put = grind (arith, nat_tests)

-- ---- which items are tried

-- in a list with each number m further on, a number m further on has the place that it had
place_further : (m j : ℕ) (xs : List ℕ) → place_in (m + j) (map (λ i. m + i) xs) ≡ place_in j xs
place_further m j [] = refl
place_further m j (x ∷ xs) = elim (cases_eq j x) [
  | inl same ↦ rw (eq-eqb j x same, eq-eqb (m + j) (m + x) (ap (λ (i : ℕ). m + i) same)) refl
  | inr apart ↦
      rw (ne_eqb j x apart, ne_eqb (m + j) (m + x) (λ same. apart (omega (arith, same)))) (ap suc (place_further m j xs))
]

-- a trial that leaves no item out tries each
tried_whole : (trial : Trial) (m n : ℕ) (clues givens : List ℕ) → IsPermutation (range_with_len 0 m) clues
    → IsPermutation (range_with_len 0 n) givens → (i : ℕ) → i < m + n → left_out trial clues ≡ [] → IsTried i (in_turn trial m clues givens)
tried_whole trial m n clues givens first second i below none =
    let xs = in_turn trial m clues givens in
    let order = order_of_permutation (m + n) (xs ++ left_out trial clues) (moved trial m n clues givens first second) in
    let count : length xs ≡ m + n =
    ap length (sym (append-nil xs) ∙ ap (λ (ys : List ℕ). xs ++ ys) (sym none)) ∙ order.count in
    place_back i xs (left_out trial clues) (omega (arith, order.inside i below, count))

-- each given is tried, and each clue or sign, too, unless the givens alone are
pub tried_in_turn : (trial : Trial) (m n : ℕ) (clues givens : List ℕ) → IsPermutation (range_with_len 0 m) clues
    → IsPermutation (range_with_len 0 n) givens → (i : ℕ) → i < m + n → (trial ≡ GivensAlone → m ≤ i) → IsTried i (in_turn trial m clues givens)
tried_in_turn GivensAlone m n clues givens first second i below low =
    let from : m ≤ i = low refl in
    let order = order_of_permutation n givens second in
    let place : place_in i (map (λ j. m + j) givens) ≡ place_in (i - m) givens =
    subst (λ (k : ℕ). place_in k (map (λ j. m + j) givens) ≡ place_in (i - m) givens) (back m i from) (place_further m (i - m) givens) in
    omega (arith, place, order.inside (i - m) (omega (arith, below, from)), order.count, length-map givens (λ j. m + j))
  where
    back : (a b : ℕ) → a ≤ b → a + (b - a) ≡ b
    back a b h = omega (arith, h)
tried_in_turn GivensFirst m n clues givens first second i below low = tried_whole GivensFirst m n clues givens first second i below refl
tried_in_turn HalfFirst m n clues givens first second i below low = tried_whole HalfFirst m n clues givens first second i below refl

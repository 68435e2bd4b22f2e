-- The pairs of a cell and a set's numbers, as a list.
use Rattle.std.proofs.lemmas.Bool.Decides.{nat_tests}
use Rattle.std.proofs.Common.{◌≡◌, ℕ, zero, suc, ◌+◌, ◌-◌, ◌^◌, ◌<◌, eqb, cond, Bool, true, false, not, ◌&&◌, ◌||◌, List, [], ◌∷◌, ◌++◌, length, map, count_ones, refl, sym, ap, ◌∙◌, subst, inl, inr, ⊎_elim, arith, append_assoc, append-nil, length-append}
use Rattle.std.specs.List.{filter, range_with_len}
use Rattle.std.proofs.lemmas.Bool.{cases_eq, cases_Bool, both_ways, false_from_ne_true, and_parts, and_from, eqb-true, eq-eqb, ne_eqb, or_cases, or_left, or_right, or_from}
use Rattle.std.proofs.lemmas.List.Folds.{list_any-append}
use Rattle.std.proofs.lemmas.List.FromFn.{filter_of_map_range_with_len_more}
use Rattle.std.proofs.lemmas.Nat.{ones_le_self}
use Rattle.number_sets.specs.Sets.{has_number, IsEmpty}
use Rattle.number_sets.proofs.Members.{below_from_number, below_from_numbers, has_number-above, none_from_numbers, power_most}
use Rattle.number_sets.proofs.OneMore.{added_without, added_ones, added_other}
use Rattle.trail_solver.specs.Pairs.{AreApart, has_pair, pairs_of, with_pair}
use Rattle.trail_solver.specs.Inner.Fields.{IsUpperPart}
use Rattle.trail_solver.proofs.Trails.{same_pair, pair_from_test, test_from_pair, has_pair-push, apart_push}

-- the pairs of the cell and the set's numbers below k
unfoldable pub pairs_to : ℕ → ℕ → ℕ → List (ℕ × ℕ)
pairs_to cell set k = filter (λ p. has_number set p.1) (map (λ v. (cell, v)) (range_with_len 0 k))

-- the pairs of a set are those of its numbers below 16
pub pairs_whole : (cell set : ℕ) → pairs_of cell set ≡ pairs_to cell set 16
unfolding pairs_of pairs_to
pairs_whole cell set = refl

-- of no numbers at all there are no pairs
pub to_zero : (cell set : ℕ) → pairs_to cell set zero ≡ []
unfolding pairs_to
to_zero cell set = refl

-- the pairs below k + 1 are those below k, and that of k if the set has it
to_more : (cell set k : ℕ) → pairs_to cell set (k + 1) ≡ pairs_to cell set k ++ cond (has_number set k) ((cell, k) ∷ []) []
unfolding pairs_to
to_more cell set k = filter_of_map_range_with_len_more (λ p. has_number set p.1) (λ v. (cell, v)) 0 k k (omega arith)

pub to_with : (cell set k : ℕ) → has_number set k ≡ true → pairs_to cell set (k + 1) ≡ pairs_to cell set k ++ (cell, k) ∷ []
to_with cell set k has = to_more cell set k ∙ ap (λ b. pairs_to cell set k ++ cond b ((cell, k) ∷ []) []) has

pub to_without : (cell set k : ℕ) → has_number set k ≡ false → pairs_to cell set (k + 1) ≡ pairs_to cell set k
to_without cell set k lacks = grind (arith, nat_tests, to_more, append-nil)

-- an induction over k, by whether the set has the number
by_numbers : (P : ℕ → Type 0) (set : ℕ) → P 0 → ((k : ℕ) → has_number set k ≡ true → P k → P (k + 1))
    → ((k : ℕ) → has_number set k ≡ false → P k → P (k + 1)) → (k : ℕ) → P k
by_numbers P set start with_it without zero = start
by_numbers P set start with_it without (suc k) =
    let before = by_numbers P set start with_it without k in
    let more : k + 1 ≡ suc k = omega arith in
    subst P more (⊎_elim (λ has. with_it k has before) (λ lacks. without k lacks before) (cases_Bool (has_number set k)))

-- ---- which pairs they are

-- the pair is of this cell, and its value is a number of the set below k
pub record IsInSet (cell set k c v : ℕ) : Type 0 where
  pub square : c ≡ cell
  pub has : has_number set v ≡ true
  pub below : v < k

pub in_set : (cell set c v k : ℕ) → has_pair (pairs_to cell set k) c v ≡ true → IsInSet cell set k c v
in_set cell set c v k =
    by_numbers (λ n. has_pair (pairs_to cell set n) c v ≡ true → IsInSet cell set n c v) set
    (λ h. absurd (both_ways false refl (sym (ap (λ (ps : List (ℕ × ℕ)). has_pair ps c v) (to_zero cell set)) ∙ h)))
    (λ n has before h.
    let split : (has_pair (pairs_to cell set n) c v || same_pair c v (cell, n)) ≡ true =
    sym (ap (λ (ps : List (ℕ × ℕ)). has_pair ps c v) (to_with cell set n has) ∙ has_pair-push (pairs_to cell set n) (cell, n) c v) ∙ h in
    elim (or_cases (has_pair (pairs_to cell set n) c v) (same_pair c v (cell, n)) split) [
      | inl there ↦ (let i = before there in record { square = i.square; has = i.has; below = omega (arith, i.below) })
      | inr here ↦
          let p = pair_from_test c cell v n here in
          record { square = p.0; has = subst (λ (j : ℕ). has_number set j ≡ true) (sym p.1) has; below = omega (arith, p.1) }
    ])
    (λ n lacks before h.
    let i = before (sym (ap (λ (ps : List (ℕ × ℕ)). has_pair ps c v) (to_without cell set n lacks)) ∙ h) in
    record { square = i.square; has = i.has; below = omega (arith, i.below) })
    k

pub from_set : (cell set v k : ℕ) → has_number set v ≡ true → v < k → has_pair (pairs_to cell set k) cell v ≡ true
from_set cell set v k has =
    by_numbers (λ n. v < n → has_pair (pairs_to cell set n) cell v ≡ true) set
    (λ h. absurd (omega arith))
    (λ n there before h.
    ap (λ (ps : List (ℕ × ℕ)). has_pair ps cell v) (to_with cell set n there)
    ∙ has_pair-push (pairs_to cell set n) (cell, n) cell v
    ∙ elim (cases_eq v n) [
      | inl same ↦ or_right (has_pair (pairs_to cell set n) cell v) (same_pair cell v (cell, n)) (test_from_pair cell cell v n refl same)
      | inr other ↦ or_left (has_pair (pairs_to cell set n) cell v) (same_pair cell v (cell, n)) (before (omega arith))
    ])
    (λ n lacks before h.
    ap (λ (ps : List (ℕ × ℕ)). has_pair ps cell v) (to_without cell set n lacks)
    ∙ before (elim (cases_eq v n) [
      | inl same ↦ absurd (both_ways (has_number set v) (subst (λ (j : ℕ). has_number set j ≡ false) (sym same) lacks) has)
      | inr other ↦ omega arith
    ]))
    k

-- a pair is in the list where the cell is this one, and the set has the value
pub has_pair-pairs_of : (cell set c v : ℕ) → set < 2 ^ 16 → has_pair (pairs_of cell set) c v ≡ (eqb c cell && has_number set v)
has_pair-pairs_of cell set c v small =
    ap (λ (ps : List (ℕ × ℕ)). has_pair ps c v) (pairs_whole cell set)
    ∙ elim (cases_Bool (eqb c cell && has_number set v)) [
      | inl is ↦
          let parts = and_parts (eqb c cell) (has_number set v) is in
          let P : ℕ → Type 0 = λ i. has_pair (pairs_to cell set 16) i v ≡ true in
          subst P (sym (eqb-true c cell parts.0)) (from_set cell set v 16 parts.1 (below_from_number set 16 v small parts.1)) ∙ sym is
      | inr other ↦
          false_from_ne_true (has_pair (pairs_to cell set 16) c v) (λ h.
          let i = in_set cell set c v 16 h in
          both_ways (eqb c cell && has_number set v) other (and_from (eqb c cell) (has_number set v) (eq-eqb c cell i.square) i.has))
          ∙ sym other
    ]

-- ---- no pair twice

-- a list without repeats that has none of a set's pairs has no repeats with them at its end
pub apart_pairs : (ps : List (ℕ × ℕ)) (cell set : ℕ) → AreApart ps → ((v : ℕ) → has_number set v ≡ true → has_pair ps cell v ≡ false)
    → AreApart (ps ++ pairs_of cell set)
apart_pairs ps cell set apart absent =
    subst (λ (qs : List (ℕ × ℕ)). AreApart (ps ++ qs)) (sym (pairs_whole cell set)) (by_numbers (λ n. AreApart (ps ++ pairs_to cell set n)) set
    (subst AreApart (sym (append-nil ps) ∙ ap (λ (qs : List (ℕ × ℕ)). ps ++ qs) (sym (to_zero cell set))) apart)
    (λ n has before.
    let whole : (ps ++ pairs_to cell set n) ++ (cell, n) ∷ [] ≡ ps ++ pairs_to cell set (n + 1) =
    append_assoc ps (pairs_to cell set n) ((cell, n) ∷ []) ∙ ap (λ (qs : List (ℕ × ℕ)). ps ++ qs) (sym (to_with cell set n has)) in
    let fresh : has_pair (pairs_to cell set n) cell n ≡ false = false_from_ne_true (has_pair (pairs_to cell set n) cell n) (λ h. let i = in_set cell set cell n n h in omega (arith, i.below)) in
    let new : has_pair (ps ++ pairs_to cell set n) cell n ≡ false =
    list_any-append (same_pair cell n) ps (pairs_to cell set n) ∙ or_from (has_pair ps cell n) (has_pair (pairs_to cell set n) cell n) (absent n has) fresh in
    subst AreApart whole (apart_push (ps ++ pairs_to cell set n) (cell, n) before new))
    (λ n lacks before. subst (λ (qs : List (ℕ × ℕ)). AreApart (ps ++ qs)) (sym (to_without cell set n lacks)) before)
    16)

-- ---- how many they are

-- sets that agree below k have the same pairs there
to_same : (cell a b k : ℕ) → ((j : ℕ) → j < k → has_number a j ≡ has_number b j) → pairs_to cell a k ≡ pairs_to cell b k
to_same cell a b k =
    by_numbers (λ n. ((j : ℕ) → j < n → has_number a j ≡ has_number b j) → pairs_to cell a n ≡ pairs_to cell b n) a
    (λ same. to_zero cell a ∙ sym (to_zero cell b))
    (λ n has before same.
    to_with cell a n has
    ∙ ap (λ (ps : List (ℕ × ℕ)). ps ++ (cell, n) ∷ []) (before (λ j less. same j (omega arith)))
    ∙ sym (to_with cell b n (sym (same n (omega arith)) ∙ has)))
    (λ n lacks before same.
    to_without cell a n lacks ∙ before (λ j less. same j (omega arith)) ∙ sym (to_without cell b n (sym (same n (omega arith)) ∙ lacks)))
    k

length_to : (cell k set : ℕ) → set < 2 ^ k → length (pairs_to cell set k) ≡ count_ones set
length_to cell zero set small =
    let none : set ≡ 0 = omega (arith, small) in
    ap length (to_zero cell set) ∙ omega (arith, ones_le_self set)
length_to cell (suc k) set small =
    let more : suc k ≡ k + 1 = omega arith in
    ap (λ n. length (pairs_to cell set n)) more ∙ elim (cases_Bool (has_number set k)) [
      | inl has ↦
          let most = power_most set k has in
          let rest : ℕ = set - 2 ^ k in
          let whole : rest + 2 ^ k ≡ set = omega (arith, most) in
          let added = added_without rest k set has whole in
          let less : rest < 2 ^ k = omega (arith, small, whole) in
          ap length (to_with cell set k has)
          ∙ length-append (pairs_to cell set k) ((cell, k) ∷ [])
          ∙ ap (λ n. n + 1) (ap length (to_same cell set rest k (λ j below. added_other added j (λ e. absurd (omega (arith, e, below))))) ∙ length_to cell k rest less)
          ∙ sym (added_ones added)
      | inr lacks ↦
          ap length (to_without cell set k lacks)
          ∙ length_to cell k set (below_from_numbers set k (λ j above. elim (cases_eq j k) [
            | inl same ↦ subst (λ (i : ℕ). has_number set i ≡ false) (sym same) lacks
            | inr other ↦ has_number-above set (suc k) j small (omega arith)
          ]))
    ]

-- there is a pair for each number of the set
pub length-pairs_of : (cell set : ℕ) → set < 2 ^ 16 → length (pairs_of cell set) ≡ count_ones set
length-pairs_of cell set small = ap length (pairs_whole cell set) ∙ length_to cell 16 set small

-- ---- sets in two parts, and of one number

none_to : (cell set k : ℕ) → ((j : ℕ) → j < k → has_number set j ≡ false) → pairs_to cell set k ≡ []
none_to cell set k =
    by_numbers (λ n. ((j : ℕ) → j < n → has_number set j ≡ false) → pairs_to cell set n ≡ []) set
    (λ none. to_zero cell set)
    (λ n has before none. absurd (both_ways (has_number set n) (none n (omega arith)) has))
    (λ n lacks before none. to_without cell set n lacks ∙ before (λ j less. none j (omega arith)))
    k

-- an empty set has no pairs
pub pairs_of_none : (cell set : ℕ) → IsEmpty set → pairs_of cell set ≡ []
pairs_of_none cell set none = pairs_whole cell set ∙ none_to cell set 16 (λ j less. none j)

pub pairs_of_one : (cell value set : ℕ) → value < 16 → ((k : ℕ) → has_number set k ≡ eqb k value) → pairs_of cell set ≡ (cell, value) ∷ []
pairs_of_one cell value set small is =
    pairs_whole cell set ∙ by_numbers (λ n. value < n → pairs_to cell set n ≡ (cell, value) ∷ []) set
    (λ h. absurd (omega arith))
    (λ n has before h.
    let same : n ≡ value = eqb-true n value (sym (is n) ∙ has) in
    to_with cell set n has
    ∙ ap (λ (ps : List (ℕ × ℕ)). ps ++ (cell, n) ∷ []) (none_to cell set n (λ j less. is j ∙ ne_eqb j value (λ e. absurd (omega (arith, e, same, less)))))
    ∙ ap (λ (i : ℕ). (cell, i) ∷ []) same)
    (λ n lacks before h.
    to_without cell set n lacks ∙ before (elim (cases_eq value n) [
      | inl same ↦ absurd (both_ways (has_number set n) lacks (is n ∙ eq-eqb n value (sym same)))
      | inr other ↦ omega arith
    ]))
    16 small

-- the rest of the set is what the part lacks
pub record IsRest (set part rest : ℕ) : Type 0 where
  pub is : (v : ℕ) → has_number rest v ≡ (has_number set v && not (has_number part v))

-- a set's pairs are those of the rest, and then those of its upper part
pub pairs_parted : (cell set part rest : ℕ) → IsUpperPart set part → IsRest set part rest
    → pairs_of cell set ≡ pairs_of cell rest ++ pairs_of cell part
pairs_parted cell set part rest upper left =
    let P : ℕ → Type 0 = λ n. pairs_to cell set n ≡ pairs_to cell rest n ++ pairs_to cell part n in
    pairs_whole cell set ∙ by_numbers P set
    (to_zero cell set ∙ sym (ap (λ (ps : List (ℕ × ℕ)). ps ++ pairs_to cell part 0) (to_zero cell rest) ∙ to_zero cell part))
    (λ n has before. elim (cases_Bool (has_number part n)) [
      | inl here ↦
          let gone : has_number rest n ≡ false = left.is n ∙ rw (has, here) refl in
          to_with cell set n has
          ∙ ap (λ (ps : List (ℕ × ℕ)). ps ++ (cell, n) ∷ []) before
          ∙ append_assoc (pairs_to cell rest n) (pairs_to cell part n) ((cell, n) ∷ [])
          ∙ ap (λ (ps : List (ℕ × ℕ)). pairs_to cell rest n ++ ps) (sym (to_with cell part n here))
          ∙ ap (λ (ps : List (ℕ × ℕ)). ps ++ pairs_to cell part (n + 1)) (sym (to_without cell rest n gone))
      | inr there ↦
          let stays : has_number rest n ≡ true = left.is n ∙ rw (has, there) refl in
          let none : (j : ℕ) → j < n + 1 → has_number part j ≡ false = λ j less.
          false_from_ne_true (has_number part j) (λ h. let above = upper.upper n j has there h in absurd (omega (arith, above, less))) in
          let empty : pairs_to cell part n ≡ [] = none_to cell part n (λ j less. none j (omega arith)) in
          let empty' : pairs_to cell part (n + 1) ≡ [] = none_to cell part (n + 1) none in
          to_with cell set n has
          ∙ ap (λ (ps : List (ℕ × ℕ)). ps ++ (cell, n) ∷ []) (before ∙ ap (λ (ps : List (ℕ × ℕ)). pairs_to cell rest n ++ ps) empty ∙ append-nil (pairs_to cell rest n))
          ∙ sym (to_with cell rest n stays)
          ∙ sym (append-nil (pairs_to cell rest (n + 1)))
          ∙ ap (λ (ps : List (ℕ × ℕ)). pairs_to cell rest (n + 1) ++ ps) (sym empty')
    ])
    (λ n lacks before.
    let out : has_number part n ≡ false = false_from_ne_true (has_number part n) (λ h. both_ways (has_number set n) lacks (upper.within n h)) in
    let gone : has_number rest n ≡ false = left.is n ∙ rw lacks refl in
    to_without cell set n lacks
    ∙ before
    ∙ ap (λ (ps : List (ℕ × ℕ)). ps ++ pairs_to cell part n) (sym (to_without cell rest n gone))
    ∙ ap (λ (ps : List (ℕ × ℕ)). pairs_to cell rest (n + 1) ++ ps) (sym (to_without cell part n out)))
    16
    ∙ sym (ap (λ (ps : List (ℕ × ℕ)). ps ++ pairs_of cell part) (pairs_whole cell rest) ∙ ap (λ (ps : List (ℕ × ℕ)). pairs_to cell rest 16 ++ ps) (pairs_whole cell part))

-- ---- how many numbers a set has, and how many pairs come first

pub ones_of_none : (set : ℕ) → IsEmpty set → count_ones set ≡ 0
ones_of_none set none = let e : set ≡ 0 = none_from_numbers set none in omega (arith, e, ones_le_self set)

pub ones_of_one : (set value : ℕ) → value < 16 → ((k : ℕ) → has_number set k ≡ eqb k value) → count_ones set ≡ 1
ones_of_one set value low is =
    let small : set < 2 ^ 16 = below_from_numbers set 16 (λ v above. is v ∙ ne_eqb v value (λ e. absurd (omega (arith, e, above, low)))) in
    sym (length-pairs_of 0 set small) ∙ ap length (pairs_of_one 0 value set low is)

-- a pair that a list lacks comes to its end, as the pairs of a set of one number
pub pairs_with_one : (ps : List (ℕ × ℕ)) (cell value set : ℕ) → has_pair ps cell value ≡ false → value < 16
    → ((k : ℕ) → has_number set k ≡ eqb k value) → ps ++ pairs_of cell set ≡ with_pair ps cell value
pairs_with_one ps cell value set fresh low is =
    ap (λ (qs : List (ℕ × ℕ)). ps ++ qs) (pairs_of_one cell value set low is)
    ∙ sym (ap (λ (b : Bool). cond b ps (ps ++ (cell, value) ∷ [])) fresh)

-- The numbers that are found along a line, and when these are each number once.
use Rattle.std.proofs.lemmas.Bool.Decides.{nat_tests}
use Rattle.std.proofs.Common.{◌≡◌, ℕ, suc, ◌+◌, ◌<◌, ◌≤◌, ◌↔◌, Bool, true, false, ◌&&◌, ◌||◌, ◌==◌, nat_le, List, [], ◌∷◌, length, get_or, set, eqb, IsTrue, inl, inr, refl, sym, ap, ◌∙◌, arith}
use Rattle.std.specs.Bool.{MatchBool}
use Rattle.std.specs.List.{list_any}
use Rattle.std.proofs.Math.ListN.{length-set}
use Rattle.std.proofs.lemmas.Bool.{cases_eq, cases_lt, and_from, and_parts, le-leb, leb-true, eq-eqb, eqb-true, false≢true, or_cases, or_left, or_right}
use Rattle.std.proofs.lemmas.List.{get_or-set_other, get_or-set_same}
use Rattle.std.proofs.lemmas.Map.Steps.{le-length_from_below}
use Rattle.number_sets.specs.Sets.{has_number, IsSubset}
use Rattle.number_sets.proofs.Members.{has_number-none}
use Rattle.latin_board.specs.Squares.{GridValue, HasEachOnce, number_at, times_in}
use Rattle.latin_board.specs.Lines.{line_cell, line_of}
use Rattle.latin_board.proofs.Counts.{times_in_head, times_in_other, once_at_least, place_of_counted, among_at}
use Rattle.latin_board.proofs.LatinLines.{length-line_of, get_or-line_of, counted_at}

-- ---- a line's numbers as a set

-- found has the numbers of the first n squares of a line
pub record AreFound (g : GridValue) (line n found : ℕ) : Type 0 where
  pub is : (v : ℕ) → (has_number found v ≡ true) ↔ ((k : ℕ) × (k < n) × (number_at g (line_cell g.size line k) ≡ v))

pub found_none : (g : GridValue) (line : ℕ) → AreFound g line 0 0
found_none g line = grind (arith, nat_tests, has_number-none)

-- with the number of the next square the set has the numbers of one square more
pub found_more : (g : GridValue) (line n found one number new : ℕ) → AreFound g line n found
    → number ≡ number_at g (line_cell g.size line n) → ((v : ℕ) → has_number one v ≡ (v == number))
    → ((v : ℕ) → has_number new v ≡ (has_number found v || has_number one v)) → AreFound g line (n + 1) new
found_more g line n found one number new h at is_one is_new = record {
  is = λ v. (
    λ e. elim (or_cases (has_number found v) (has_number one v) (sym (is_new v) ∙ e)) [
      | inl old ↦ let (k, inside, there) = (h.is v).0 old in (k, omega arith, there)
      | inr here ↦ (n, omega arith, sym at ∙ sym (eqb-true v number (sym (is_one v) ∙ here)))
    ],
    λ (k, inside, there). elim (cases_lt k n) [
      | inl low ↦ is_new v ∙ or_left (has_number found v) (has_number one v) ((h.is v).1 (k, low, there))
      | inr high ↦
          let last : k ≡ n = omega arith in
          let same : v ≡ number = sym there ∙ ap (λ k. number_at g (line_cell g.size line k)) last ∙ sym at in
          is_new v ∙ or_right (has_number found v) (has_number one v) (is_one v ∙ eq-eqb v number same)
    ],
  );
}

-- ---- as many places as numbers

-- a number that is counted twice stands at two places
places_of_two : (v : ℕ) (xs : List ℕ) → 2 ≤ times_in v xs
    → (i : ℕ) × (j : ℕ) × (i < j) × (j < length xs) × (get_or xs i 0 ≡ v) × (get_or xs j 0 ≡ v)
places_of_two v [] counted = absurd (omega arith)
places_of_two v (x ∷ xs) counted =
    elim (cases_eq x v) [
      | inl here ↦
          let (k, inside, again) = place_of_counted v xs (omega (arith, times_in_head v x xs here)) in
          (0, suc k, omega arith, omega arith, here, again)
      | inr other ↦
          let (i, j, before, inside, first, second) = places_of_two v xs (omega (arith, times_in_other v x xs other)) in
          (suc i, suc j, omega arith, omega arith, first, second)
    ]

-- each number from 1 to w stands in the line
pub record AllStand (w : ℕ) (line : List ℕ) : Type 0 where
  pub place : (u : ℕ) → 1 ≤ u → u ≤ w → (k : ℕ) × (k < w) × (get_or line k 0 ≡ u)

-- where each number from 1 to w stands in w places, none stands twice: too few would be left for the others
none_twice : (w : ℕ) (line : List ℕ) (v i j : ℕ) → length line ≡ w → AllStand w line → i < j → j < w → get_or line i 0 ≡ v
    → get_or line j 0 ≡ v → ⊥
none_twice w line v i j len all before inside first second =
    let blanked = set line j 0 in
    let long : length blanked ≡ w = length-set line j 0 ∙ len in
    let stands : (u k : ℕ) → k < w → (k ≡ j → ⊥) → get_or line k 0 ≡ u → list_any (eqb u) blanked ≡ true =
    λ u k low apart here. among_at u blanked k (omega arith) (get_or-set_other line j k 0 0 apart ∙ here) in
    let more : w + 1 ≤ length blanked = le-length_from_below blanked (w + 1) (λ u below. elim (cases_lt u 1) [
      | inl low ↦ among_at u blanked j (omega arith) (get_or-set_same line j 0 0 (omega arith) ∙ omega arith)
      | inr high ↦
          let (k, within, here) = all.place u high (omega arith) in
          elim (cases_eq k j) [
            | inl same ↦ stands u i (omega arith) (λ e. omega arith) (first ∙ sym second ∙ ap (λ k. get_or line k 0) (sym same) ∙ here)
            | inr apart ↦ stands u k within apart here
          ]
    ]) in
    omega arith

-- so each number stands in the line exactly once
once_where_all : (w : ℕ) (line : List ℕ) → length line ≡ w → AllStand w line → HasEachOnce w line
once_where_all w line len all = λ v low high.
    let (k, inside, here) = all.place v low high in
    let one = once_at_least v line k (omega arith) here in
    elim (cases_lt (times_in v line) 2) [
      | inl single ↦ omega arith
      | inr twice ↦
          let (i, j, before, last, first, second) = places_of_two v line twice in
          absurd (none_twice w line v i j len all before (omega arith) first second)
    ]

-- ---- the test of a line

-- `every` is the set of the numbers from 1 to w
pub record AreEvery (every w : ℕ) : Type 0 where
  pub is : (v : ℕ) → has_number every v ≡ (nat_le 1 v && nat_le v w)

each_once : (g : GridValue) (line found every : ℕ) → AreFound g line g.size found → AreEvery every g.size → IsSubset every found
    → HasEachOnce g.size (line_of g line)
each_once g line found every h all sub =
    once_where_all g.size (line_of g line) (length-line_of g line) (record {
      place = λ u low high.
          let (k, inside, here) = (h.is u).0 (sub u (all.is u ∙ and_from (nat_le 1 u) (nat_le u g.size) (le-leb 1 u low) (le-leb u g.size high))) in
          (k, inside, get_or-line_of g line k inside ∙ here);
    })

all_found : (g : GridValue) (line found every : ℕ) → AreFound g line g.size found → AreEvery every g.size
    → HasEachOnce g.size (line_of g line) → IsSubset every found
all_found g line found every h all once = λ v has.
    let both = and_parts (nat_le 1 v) (nat_le v g.size) (sym (all.is v) ∙ has) in
    (h.is v).1 (counted_at g line v (omega (arith, once v (leb-true 1 v both.0) (leb-true v g.size both.1))))

pub once_decided : (b : Bool) (g : GridValue) (line found every : ℕ) → AreFound g line g.size found → AreEvery every g.size
    → MatchBool b (IsSubset every found) (IsSubset every found → ⊥) → IsTrue b ↔ HasEachOnce g.size (line_of g line)
once_decided true g line found every h all sub = (λ yes. each_once g line found every h all sub, λ once. refl)
once_decided false g line found every h all lacks = (
  λ yes. absurd (false≢true yes),
  λ once. absurd (lacks (all_found g line found every h all once)),
)

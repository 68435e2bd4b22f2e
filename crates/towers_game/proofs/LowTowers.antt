-- How many towers are seen along a line that has a tall one near its beginning.
use Rattle.std.proofs.lemmas.Bool.Decides.{nat_tests}
use Rattle.std.proofs.Common.{◌≡◌, ℕ, ◌+◌, ◌-◌, ◌*◌, ◌<◌, ◌≤◌, ◌&&◌, inl, inr, Bool, true, false, cond, not, nat_le, refl, ltb, List, [], ◌∷◌, ◌++◌, length, get_or, zero, suc, sym, ap, ◌∙◌, subst, arith}
use Rattle.std.specs.List.{All, list_all}
use Rattle.std.proofs.lemmas.Bool.{both_ways, cases_Bool, cases_lt, and_parts, and_from, le-leb}
use Rattle.std.proofs.lemmas.List.{get_or_default}
use Rattle.std.proofs.lemmas.List.Elements.{All-tail}
use Rattle.std.proofs.lemmas.List.Folds.{list_all-append}
use Rattle.number_sets.specs.Sets.{has_number}
use Rattle.tower_lines.specs.TowersSeen.{seen_after}
use Rattle.trail_solver.specs.Candidates.{CandidatesValue}
use Rattle.towers_game.specs.Fillings.{Anything, IsUnfilled}
use Rattle.towers_game.specs.Laws.TowersReasons.{towers_less}
use Rattle.line_steps.specs.Chains.{LeadsTo}
use Rattle.towers_game.specs.TowersReasons.{IsTowersStruckBy}
use Rattle.line_steps.specs.Takes.{Strikes}
use Rattle.towers_game.specs.Towers.{TowersValue, clue_of}
use Rattle.line_steps.specs.Views.{view_cell}
use Rattle.line_steps.proofs.Leads.{leads_taken}
use Rattle.line_steps.proofs.Takes.{takes_struck}
use Rattle.line_steps.specs.declared.grade.Grade.TheVariants.{Easy}
use Rattle.line_steps.specs.declared.reason.Reason.TheVariants.{Bound}

-- ---- towers after a value

-- what is greater than each value of the list is greater than this one
abbrev pub IsNoGreater : ℕ → List ℕ → Type 0
IsNoGreater m before = (x : ℕ) → list_all (λ y. ltb y x) before ≡ true → m < x

-- a value is no greater than the greatest of a list that ends with it
last_no_greater : (before : List ℕ) (m : ℕ) → IsNoGreater m (before ++ m ∷ [])
last_no_greater before m x tall = grind (arith, nat_tests, list_all-append)

-- a value that is no greater than the greatest of a list is so when the list gets longer
more_no_greater : (before : List ℕ) (m v : ℕ) → IsNoGreater m before → IsNoGreater m (before ++ v ∷ [])
more_no_greater before m v h x tall =
    h x (and_parts _ _ (sym (list_all-append (λ y. ltb y x) before (v ∷ [])) ∙ tall)).0

-- after a value no more towers are seen than there are greater values
seen_above : (n m : ℕ) (before line : List ℕ) → m ≤ n → IsNoGreater m before → All (λ v. v ≤ n) line → seen_after before line + m ≤ n
seen_above n m before [] most h within = omega arith
seen_above n m before (x ∷ line) most h within =
    let least : x ≤ n = within 0 0 (omega arith) in
    let later = All-tail (λ v. v ≤ n) x line within in
    elim (cases_Bool (list_all (λ y. ltb y x) before)) [
      | inl tall ↦
          let above = h x tall in
          let rest = seen_above n x (before ++ x ∷ []) line least (last_no_greater before x) later in
          rw tall (omega arith)
      | inr hidden ↦
          let rest = seen_above n m (before ++ x ∷ []) line most (more_no_greater before m x h) later in
          rw hidden (omega arith)
    ]

-- one tower more, or none, is at most one more
step_most : (b : Bool) (towers most : ℕ) → towers ≤ most → cond b 1 0 + towers ≤ most + 1
step_most true towers most h = omega arith
step_most false towers most h = omega arith

-- no more towers are seen than the place of a square, counted from 1, and one for each value above its own
seen_around : (n j : ℕ) (before line : List ℕ) → All (λ v. v ≤ n) line → j < length line → seen_after before line + get_or line j 0 ≤ n + j + 1
seen_around n j before [] within inside = absurd (omega arith)
seen_around n zero before (x ∷ line) within inside =
    let rest = seen_above n x (before ++ x ∷ []) line (within 0 0 (omega arith)) (last_no_greater before x) (All-tail (λ v. v ≤ n) x line within) in
    omega (arith, step_most (list_all (λ y. ltb y x) before) _ _ rest)
seen_around n (suc j) before (x ∷ line) within inside =
    let rest = seen_around n j (before ++ x ∷ []) line (All-tail (λ v. v ≤ n) x line within) (omega arith) in
    omega (arith, step_most (list_all (λ y. ltb y x) before) _ _ rest)

-- ---- a square near a clue

-- no line that shows the clue's towers has in a square near the clue a number that is too great for it there
pub low_unfilled : (w place clue j value : ℕ) → j < w → w + j + 1 < value + clue → IsUnfilled w Anything place clue (view_cell w place j) value
low_unfilled w place clue j value near high = record {
  index = j;
  inside = near;
  here = refl;
  none = λ line filling same.
      let within : All (λ v. v ≤ w) line = λ k d low.
      let most = (filling.pairs k (omega (arith, low, filling.whole))).high in
      omega (arith, get_or_default line k d 0 low, most) in
      omega (arith, high, same, filling.shown, seen_around w j [] line within (omega (arith, near, filling.whole)));
}

-- taking away the numbers too great for a clue in the k-th square from it, counted from 1, is a chain of Easy
pub low_leads : (v : TowersValue) (place clue k most all low high cell : ℕ) (a b : CandidatesValue) → a.size ≡ v.size → place < 4 * a.size
    → clue ≡ clue_of v place → 0 < k → k < clue → clue ≤ a.size → most + clue ≡ a.size + k → cell ≡ view_cell a.size place (k - 1)
    → ((n : ℕ) → has_number low n ≡ (nat_le 1 n && nat_le n most)) → ((n : ℕ) → has_number high n ≡ (has_number all n && not (has_number low n)))
    → Strikes a b cell high → LeadsTo (IsTowersStruckBy v) Easy a b
low_leads v place clue k most all low high cell a b size inside is some near small bound here low_is high_is strikes =
    leads_taken (IsTowersStruckBy v) (towers_less v) Easy (λ n u. (n ≡ cell) × (has_number high u ≡ true)) a b (takes_struck a b cell high strikes)
    (λ n u pair h.
    let both = and_parts (has_number all u) (not (has_number low u)) (sym (high_is u) ∙ h.1) in
    let above : most < u = elim (cases_lt most u) [
      | inl up ↦ up
      | inr down ↦ absurd (both_ways (not (has_number low u))
          (ap not (low_is u ∙ and_from (nat_le 1 u) (nat_le u most) (le-leb 1 u pair.low) (le-leb u most down))) both.1)
    ] in
    let far : k - 1 < a.size = omega (arith, near, small) in
    let unfilled : IsUnfilled a.size Anything place clue (view_cell a.size place (k - 1)) u =
    low_unfilled a.size place clue (k - 1) u far (omega (arith, above, bound, some)) in
    let U : ℕ → ℕ → ℕ → Type 0 = λ w i c. IsUnfilled w Anything place i c u in (
      Bound place,
      refl,
      record {
        place_is = omega (arith, inside, size);
        clued = omega (arith, is, near);
        unfilled = subst (λ (w : ℕ). U w (clue_of v place) n) size (subst (λ (i : ℕ). U a.size i n) is
            (subst (λ (c : ℕ). U a.size clue c) (sym (h.0 ∙ here)) unfilled));
      },
    ))

-- Of which squares of a line something went, and which lines those are on.
use Rattle.std.proofs.Common.{◌≡◌, ◌≢◌, ℕ, ◌-◌, ◌*◌, ◌/◌, ◌%◌, ◌<◌, ◌≤◌, true, false, ◌||◌, ◌==◌, length, inl, inr, refl, sym, ap, ◌∙◌, subst, arith}
use Rattle.std.proofs.lemmas.Bool.{both_ways, cases_lt, or_left, or_right, eq-eqb, lt-ltb, le-ltb}
use Rattle.std.proofs.lemmas.Nat.{div-mul-add, mod-mul-add}
use Rattle.number_sets.specs.Sets.{has_number, IsEmpty}
use Rattle.latin_board.specs.Lines.{line_cell}
use Rattle.trail_solver.specs.Candidates.{CandidatesValue}
use Rattle.line_steps.specs.Takes.{Strikes, Takes, AreChanged, is_crossing}
use Rattle.line_steps.proofs.Takes.{takes_struck, takes_length, takes_same, takes_stays}

-- ---- squares of which something went

-- candidates that stay the same are changed at no place
pub changed_none : (line places : ℕ) (c : CandidatesValue) → IsEmpty places → AreChanged line places c c
changed_none line places c none = record {
  stays = λ cell v left apart. left;
  went = λ k has. absurd (both_ways (has_number places k) (none k) has);
  same = λ e. refl;
}

-- if something goes of square k, its place is added to those that changed
pub changed_next : (line places one more k values : ℕ) (a b c : CandidatesValue) → k < a.size → length a.trail ≤ length b.trail
    → ((j : ℕ) → has_number one j ≡ (j == k)) → ((j : ℕ) → has_number more j ≡ (has_number places j || has_number one j))
    → AreChanged line places a b → Strikes b c (line_cell a.size line k) values → (length c.trail ≡ length b.trail → ⊥) → AreChanged line more a c
changed_next line places one more k values a b c low longer is_one is_more h s moved =
    let Here : ℕ → ℕ → Type 0 = λ cell v. (cell ≡ line_cell a.size line k) × (has_number values v ≡ true) in
    let t : Takes Here b c = takes_struck b c (line_cell a.size line k) values s in
    let last : has_number more k ≡ true = is_more k ∙ or_right (has_number places k) (has_number one k) (is_one k ∙ eq-eqb k k refl) in
    record {
      stays = λ cell v left apart.
          let before = h.stays cell v left (λ j below has. apart j below (is_more j ∙ or_left (has_number places j) (has_number one j) has)) in
          takes_stays Here b c cell v t before (λ here. apart k low last here.0);
      went = λ j has. omega (arith, longer, takes_length Here b c t, moved);
      same = λ e. absurd (both_ways (has_number more k) (e k) last);
    }

-- if something goes of one square alone, its place is the only one that changed
pub changed_one : (line one k values : ℕ) (a b : CandidatesValue) → k < a.size → ((j : ℕ) → has_number one j ≡ (j == k))
    → Strikes a b (line_cell a.size line k) values → (length b.trail ≡ length a.trail → ⊥) → AreChanged line one a b
changed_one line one k values a b low is s moved =
    let Here : ℕ → ℕ → Type 0 = λ cell v. (cell ≡ line_cell a.size line k) × (has_number values v ≡ true) in
    let t : Takes Here a b = takes_struck a b (line_cell a.size line k) values s in
    let has : has_number one k ≡ true = is k ∙ eq-eqb k k refl in
    record {
      stays = λ cell v left apart. takes_stays Here a b cell v t left (λ here. apart k low has here.0);
      went = λ j there. omega (arith, takes_length Here a b t, moved);
      same = λ e. absurd (both_ways (has_number one k) (e k) has);
    }

-- if nothing goes of a square, the places that changed are as before
pub changed_not : (line places cell values : ℕ) (a b c : CandidatesValue) → AreChanged line places a b → Strikes b c cell values
    → length c.trail ≡ length b.trail → AreChanged line places a c
changed_not line places cell values a b c h s still =
    let Here : ℕ → ℕ → Type 0 = λ n v. (n ≡ cell) × (has_number values v ≡ true) in
    let same : c ≡ b = takes_same Here b c (takes_struck b c cell values s) still in
    subst (λ d. AreChanged line places a d) (sym same) h

-- ---- lines across

-- square k of a row is in that row and in column k
row_at : (w line k : ℕ) → line < w → k < w → (line_cell w line k / w ≡ line) × (line_cell w line k % w ≡ k)
row_at w line k row low = rw (lt-ltb line w row) (div-mul-add line w k low, mod-mul-add line w k low)

-- square k of a column is in row k and in that column
column_at : (w line k : ℕ) → line < 2 * w → w ≤ line → k < w → (line_cell w line k / w ≡ k) × (line_cell w line k % w ≡ line - w)
column_at w line k below column low = rw (le-ltb line w column)
    (div-mul-add k w (line - w) (omega (arith, below, column)), mod-mul-add k w (line - w) (omega (arith, below, column)))

-- two lines that don't cross at one of the places have no square in common there
pub apart_from : (w line places other : ℕ) → line < 2 * w → other < 2 * w → other ≢ line → is_crossing w line places other ≡ false
    → (j k : ℕ) → j < w → k < w → has_number places k ≡ true → line_cell w other j ≢ line_cell w line k
apart_from w line places other line_is other_is apart uncrossed j k j_is k_is has = λ same. elim (cases_lt line w) [
  | inl row ↦
      let here = row_at w line k row k_is in
      elim (cases_lt other w) [
        | inl one ↦ absurd (apart (sym (row_at w other j one j_is).0 ∙ ap (λ (n : ℕ). n / w) same ∙ here.0))
        | inr one ↦
            let place : other - w ≡ k = sym (column_at w other j other_is one j_is).1 ∙ ap (λ (n : ℕ). n % w) same ∙ here.1 in
            let lacks : has_number places (other - w) ≡ false = rw (lt-ltb line w row, le-ltb other w one) at uncrossed in
            both_ways (has_number places k) (ap (has_number places) (sym place) ∙ lacks) has
      ]
  | inr column ↦
      let here = column_at w line k line_is column k_is in
      elim (cases_lt other w) [
        | inl one ↦
            let place : other ≡ k = sym (row_at w other j one j_is).0 ∙ ap (λ (n : ℕ). n / w) same ∙ here.0 in
            let lacks : has_number places other ≡ false = rw (le-ltb line w column, lt-ltb other w one) at uncrossed in
            both_ways (has_number places k) (ap (has_number places) (sym place) ∙ lacks) has
        | inr one ↦
            let place : other - w ≡ line - w = sym (column_at w other j other_is one j_is).1 ∙ ap (λ (n : ℕ). n % w) same ∙ here.1 in
            absurd (apart (omega (arith, place, one, column)))
      ]
]

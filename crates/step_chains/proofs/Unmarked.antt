-- The numbers that aren't in view of a board's square, or aren't marked there, as sets.
use Rattle.std.proofs.Common.{◌≡◌, ◌≢◌, ◌↔◌, ℕ, ◌+◌, ◌*◌, ◌<◌, ◌≤◌, true, false, ◌==◌, ◌||◌, inl, inr, ◌⊎◌, refl, sym, ◌∙◌, subst, arith}
use Rattle.std.proofs.lemmas.Bool.{both_ways, cases_eq, cases_Bool, eq-eqb, eqb-true, false_from_ne_true, not_from_false, or_left, or_right}
use Rattle.number_sets.specs.Sets.{has_number, no_numbers}
use Rattle.number_sets.proofs.Members.{has_number-none}
use Rattle.latin_board.specs.Boards.{BoardValue, grid_of, marks_at}
use Rattle.latin_board.specs.Squares.{number_at}
use Rattle.trail_solver.specs.Pairs.{IsPair}
use Rattle.trail_solver.specs.Candidates.{CandidatesValue, may_be}
use Rattle.line_steps.specs.Left.{all_of}
use Rattle.line_steps.specs.Takes.{Takes}
use Rattle.step_chains.specs.BoardViews.{IsBoardView}
use Rattle.step_chains.specs.Inner.Views.{IsHidden, IsHiddenSet, IsUnmarkedSet, IsUnseenSet}

-- a number that two sets have together is in one of them
one_of : (a b : ℕ) (set v : ℕ) → ((n : ℕ) → has_number set n ≡ (has_number a n || has_number b n)) → has_number set v ≡ true
    → (has_number a v ≡ true) ⊎ (has_number b v ≡ true)
one_of a b set v either has = grind (arith, cases_Bool, both_ways)

-- ---- one number

-- a number that isn't among the marks is the only one of its set
pub one_out : (marks value one : ℕ) → has_number marks value ≡ false → ((k : ℕ) → has_number one k ≡ (k == value))
    → (v : ℕ) → (has_number one v ≡ true) ↔ ((v ≡ value) × (has_number marks v ≡ false))
one_out marks value one lacks members = λ v. grind (arith, eqb-true, eq-eqb)

-- of a number among the marks there is none
pub none_out : (marks value : ℕ) → has_number marks value ≡ true
    → (v : ℕ) → (has_number no_numbers v ≡ true) ↔ ((v ≡ value) × (has_number marks v ≡ false))
none_out marks value has = λ v. grind (arith, both_ways, has_number-none)

-- ---- a square

-- with one number more, those up to it that aren't among the marks are found
pub out_added : (marks value out one result : ℕ)
    → ((v : ℕ) → (has_number out v ≡ true) ↔ ((1 ≤ v) × (v < value) × (has_number marks v ≡ false)))
    → 1 ≤ value
    → ((v : ℕ) → (has_number one v ≡ true) ↔ ((v ≡ value) × (has_number marks v ≡ false)))
    → ((v : ℕ) → has_number result v ≡ (has_number out v || has_number one v))
    → (v : ℕ) → (has_number result v ≡ true) ↔ ((1 ≤ v) × (v < value + 1) × (has_number marks v ≡ false))
out_added marks value out one result before low single either = λ v. (
  λ has. elim (one_of out one result v either has) [
    | inl old ↦ let h = (before v).0 old in (h.0, omega (arith, h.1), h.2)
    | inr new ↦ let h = (single v).0 new in (omega (arith, h.0, low), omega (arith, h.0), h.1)
  ],
  λ h. grind (arith, cases_eq, or_right, or_left),
)

-- of a square with a number, or without a mark, no number is left out by its marks
pub none_unmarked : (b : BoardValue) (cell : ℕ) → (number_at (grid_of b) cell ≢ 0) ⊎ (marks_at b cell ≡ no_numbers) → IsUnmarkedSet b cell no_numbers
none_unmarked b cell h = λ v pair. grind (arith, both_ways, has_number-none)

-- of an empty square with marks, the others from 1 to 9 are left out
pub unmarked_set : (b : BoardValue) (cell marks set : ℕ) → b.size ≤ 9 → marks ≡ marks_at b cell → number_at (grid_of b) cell ≡ 0 → marks ≢ no_numbers
    → ((v : ℕ) → (has_number set v ≡ true) ↔ ((1 ≤ v) × (v ≤ 9) × (has_number marks v ≡ false)))
    → IsUnmarkedSet b cell set
unmarked_set b cell marks set small is empty some out = λ v pair. grind arith

-- the numbers that aren't in view or aren't marked, from the sets of both
pub hidden_set : (b : BoardValue) (cell unseen unmarked result : ℕ) → IsUnseenSet (grid_of b) cell unseen → IsUnmarkedSet b cell unmarked
    → ((n : ℕ) → has_number result n ≡ (has_number unseen n || has_number unmarked n)) → IsHiddenSet b cell result
hidden_set b cell unseen unmarked result first second either = λ v pair. (
  λ has. elim (one_of unseen unmarked result v either has) [
    | inl out ↦ inl ((first v pair).0 out)
    | inr out ↦ inr ((second v pair).0 out)
  ],
  λ h. elim h [
    | inl out ↦ either v ∙ or_left (has_number unseen v) (has_number unmarked v) ((first v pair).1 out)
    | inr out ↦ either v ∙ or_right (has_number unseen v) (has_number unmarked v) ((second v pair).1 out)
  ],
)

-- ---- all squares

-- once all that is hidden is gone, what is left is what is in view of the board
pub board_view : (b : BoardValue) (c : CandidatesValue) (w : ℕ) → w ≡ b.size * b.size
    → Takes (λ cell v. (j : ℕ) × (j < w) × (cell ≡ j) × IsHidden b j v) (all_of b.size) c → IsBoardView b c
board_view b c w w_is t =
    let hidden_gone : (cell v : ℕ) → IsPair b.size cell v → IsHidden b cell v → may_be c cell v ≡ false =
    λ cell v pair hidden. t.gone cell v pair (cell, subst (λ (k : ℕ). cell < k) (sym w_is) pair.inside, refl, hidden) in
    let kept : (cell v : ℕ) → (IsHidden b cell v → ⊥) → may_be c cell v ≡ true = grind (arith, not_from_false, false_from_ne_true) in
    record {
      size = t.size;
      filled = λ cell v pair some. grind (arith, cases_eq, both_ways);
      empty = λ cell v pair blank. (
        λ may. (
          λ peer peers is. both_ways (may_be c cell v) (hidden_gone cell v pair (inl (inr (blank, (peer, peers, is))))) may,
          elim (cases_eq (marks_at b cell) no_numbers) [
            | inl bare ↦ inl bare
            | inr some ↦ elim (cases_Bool (has_number (marks_at b cell) v)) [
              | inl has ↦ inr has
              | inr lacks ↦ absurd (grind (arith, both_ways))
            ]
          ],
        ),
        λ h. kept cell v (λ hidden. grind (arith, both_ways)),
      );
    }

-- The pairs that are gone when a square loses one value, or all values but one.
use Rattle.std.proofs.Common.{arith}
use Rattle.std.proofs.lemmas.Bool.Decides.{nat_tests}
use Rattle.std.proofs.Common.{◌≡◌, ◌≢◌, ℕ, ◌*◌, ◌<◌, eqb, false, not, ◌&&◌, ◌||◌, ◌⊎◌, List, ◌++◌, sym, ap, ◌∙◌, subst, inl, inr, ⊎_elim}
use Rattle.std.proofs.lemmas.Bool.{cases_eq, cases_Bool, both_ways, eq-eqb, false_from_ne_true, ne_eqb, cond_both}
use Rattle.std.proofs.Math.Bool.{or-false}
use Rattle.latin_board.specs.Squares.{GridValue, number_at}
use Rattle.number_sets.specs.Sets.{has_number}
use Rattle.trail_solver.specs.Pairs.{IsPair, has_pair, pairs_of, with_pair}
use Rattle.trail_solver.specs.Candidates.{CandidatesValue, IsCandidates, IsEarlier, IsSetOf, IsWithin, may_be}
use Rattle.trail_solver.specs.Inner.Squares.{KeepsOnly}
use Rattle.trail_solver.proofs.Trails.{same_pair, pair_from_test, has_pair-push}
use Rattle.trail_solver.proofs.Earlier.{prefix_with_pair}
use Rattle.trail_solver.proofs.StruckSets.{AreMissing, gone_missing, missing_are, missing_strikes, rest_missing, struck_earlier}

-- a pair is gone where it was gone, or is the one that went
pub has_pair-with_pair : (ps : List (ℕ × ℕ)) (cell value c v : ℕ)
    → has_pair (with_pair ps cell value) c v ≡ (has_pair ps c v || same_pair c v (cell, value))
has_pair-with_pair ps cell value c v =
    grind (arith, nat_tests, cond_both, cases_Bool, pair_from_test, or-false, has_pair-push)

-- the value went from the cell, as `remove` does it
pub record Removes (old new : CandidatesValue) (cell value : ℕ) : Type 0 where
  pub size : new.size ≡ old.size
  pub trail : new.trail ≡ with_pair old.trail cell value

pub may_be-removed : (old new : CandidatesValue) (cell value c v : ℕ) → Removes old new cell value
    → may_be new c v ≡ not (has_pair old.trail c v || same_pair c v (cell, value))
may_be-removed old new cell value c v r =
    ap (λ (ps : List (ℕ × ℕ)). not (has_pair ps c v)) r.trail ∙ ap not (has_pair-with_pair old.trail cell value c v)

-- candidates were earlier before a pair was removed
pub removed_earlier : (old new : CandidatesValue) (cell value : ℕ) → Removes old new cell value → IsEarlier old new
removed_earlier old new cell value r = grind (arith, nat_tests, prefix_with_pair)

-- a removal takes no other pair away
pub rest_removed : (old new : CandidatesValue) (cell value c v : ℕ) → Removes old new cell value → (c ≢ cell) ⊎ (v ≢ value)
    → may_be new c v ≡ may_be old c v
rest_removed old new cell value c v r h =
    let other : same_pair c v (cell, value) ≡ false =
    false_from_ne_true (same_pair c v (cell, value)) (λ e. let p = pair_from_test c cell v value e in ⊎_elim (λ n. n p.0) (λ n. n p.1) h) in
    may_be-removed old new cell value c v r ∙ ap (λ b. not (has_pair old.trail c v || b)) other ∙ ap not (or-false (has_pair old.trail c v))

-- when all values but one go from a square, it keeps only this one
pub one_kept : (old new : CandidatesValue) (cell value values one missing : ℕ) → IsCandidates old → IsSetOf old cell values
    → ((v : ℕ) → has_number one v ≡ eqb v value)
    → ((v : ℕ) → has_number missing v ≡ (has_number values v && not (has_number one v)))
    → new.size ≡ old.size → new.trail ≡ old.trail ++ pairs_of cell missing → KeepsOnly old new cell value
one_kept old new cell value values one missing valid is single left size trail =
    let s = missing_strikes old new cell missing valid (missing_are old cell values one missing is left) size trail in
    let m : AreMissing values one missing = record { is = left } in
    record {
      less = struck_earlier old new cell missing s;
      others = λ v pair other. gone_missing old new cell values one missing v is m s pair (single v ∙ ne_eqb v value other);
      rest = λ c v h. rest_missing old new cell values one missing c v m s (⊎_elim (λ n. inl n) (λ e. inr (single v ∙ eq-eqb v value e)) h);
    }

-- a grid within the candidates that has the kept value in the cell is still within
pub within_one_kept : (old new : CandidatesValue) (cell value : ℕ) (g : GridValue) → KeepsOnly old new cell value → IsWithin old g
    → number_at g cell ≡ value → IsWithin new g
within_one_kept old new cell value g k w e = grind (arith, nat_tests)

-- a grid within what is left has the kept value in the cell
pub value_one_kept : (old new : CandidatesValue) (cell value : ℕ) (g : GridValue) → KeepsOnly old new cell value
    → IsPair old.size cell (number_at g cell) → IsWithin new g → number_at g cell ≡ value
value_one_kept old new cell value g k pair w =
    let inside : cell < new.size * new.size = subst (λ (n : ℕ). cell < n * n) (sym k.less.size) pair.inside in
    ⊎_elim (λ e. e) (λ n. absurd (both_ways (may_be new cell (number_at g cell)) (k.others (number_at g cell) pair n) (w.each cell inside))) (cases_eq (number_at g cell) value)

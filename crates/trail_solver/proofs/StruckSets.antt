-- The candidates that are left when values of a set go from a square.
use Rattle.std.proofs.Common.{arith}
use Rattle.std.proofs.lemmas.Bool.Decides.{nat_tests}
use Rattle.std.proofs.Common.{◌≡◌, ◌≢◌, ℕ, ◌^◌, ◌<◌, eqb, true, false, not, ◌&&◌, ◌||◌, ◌⊎◌, ◌++◌, refl, sym, ap, ◌∙◌, inl, inr, ⊎_elim}
use Rattle.std.proofs.lemmas.Bool.{and_from, and_parts, both_ways, cases_Bool, eq-eqb, eqb-true, false_from_ne_true, or_right}
use Rattle.std.proofs.Math.Bool.{or-false}
use Rattle.std.proofs.lemmas.List.Folds.{list_any-append}
use Rattle.number_sets.specs.Sets.{has_number}
use Rattle.trail_solver.specs.Pairs.{IsPair, has_pair, pairs_of}
use Rattle.trail_solver.specs.Candidates.{CandidatesValue, AreCandidates, IsCandidates, IsEarlier, IsSetOf, may_be}
use Rattle.trail_solver.proofs.Earlier.{prefix-append, stays_gone}
use Rattle.trail_solver.proofs.SetPairs.{has_pair-pairs_of}
use Rattle.trail_solver.proofs.Removals.{set_below}

-- the set's values went from the cell, as `remove_all` does it
pub record RemovesAll (old new : CandidatesValue) (cell set : ℕ) : Type 0 where
  pub size : new.size ≡ old.size
  pub trail : new.trail ≡ old.trail ++ pairs_of cell set
  pub small : set < 2 ^ 16

-- candidates were earlier before a set was struck
pub struck_earlier : (old new : CandidatesValue) (cell set : ℕ) → RemovesAll old new cell set → IsEarlier old new
struck_earlier old new cell set s = grind (arith, nat_tests, prefix-append)

has_pair-struck : (old new : CandidatesValue) (cell set c v : ℕ) → RemovesAll old new cell set
    → has_pair new.trail c v ≡ (has_pair old.trail c v || (eqb c cell && has_number set v))
has_pair-struck old new cell set c v s = grind (arith, nat_tests, list_any-append, has_pair-pairs_of)

-- the set's values are gone
pub gone_struck : (old new : CandidatesValue) (cell set v : ℕ) → RemovesAll old new cell set → has_number set v ≡ true → may_be new cell v ≡ false
gone_struck old new cell set v s has =
    ap not (has_pair-struck old new cell set cell v s ∙ or_right (has_pair old.trail cell v) (eqb cell cell && has_number set v) (and_from (eqb cell cell) (has_number set v) (eq-eqb cell cell refl) has))

-- no other pairs went than those of the cell with the set's values
pub rest_struck : (old new : CandidatesValue) (cell set c v : ℕ) → RemovesAll old new cell set → (c ≢ cell) ⊎ (has_number set v ≡ false)
    → may_be new c v ≡ may_be old c v
rest_struck old new cell set c v s other =
    let out : (eqb c cell && has_number set v) ≡ false = false_from_ne_true (eqb c cell && has_number set v) (λ e.
    let p = and_parts (eqb c cell) (has_number set v) e in ⊎_elim (λ n. n (eqb-true c cell p.0)) (λ n. both_ways (has_number set v) n p.1) other) in
    ap not (has_pair-struck old new cell set c v s ∙ ap (λ b. has_pair old.trail c v || b) out ∙ or-false (has_pair old.trail c v))

-- ---- all values that a set lacks are struck

-- `missing` has the numbers of the first set that the second lacks
pub record AreMissing (values kept missing : ℕ) : Type 0 where
  pub is : (v : ℕ) → has_number missing v ≡ (has_number values v && not (has_number kept v))

-- the values that a square has and a set lacks are candidates of the square
pub missing_are : (c : CandidatesValue) (cell values kept missing : ℕ) → IsSetOf c cell values
    → ((v : ℕ) → has_number missing v ≡ (has_number values v && not (has_number kept v))) → AreCandidates c cell missing
missing_are c cell values kept missing is left v has =
    (is v).0 (and_parts (has_number values v) (not (has_number kept v)) (sym (left v) ∙ has)).0

-- the values that a square has and another set shares are candidates of the square
pub shared_are : (c : CandidatesValue) (cell values set struck : ℕ) → IsSetOf c cell values
    → ((v : ℕ) → has_number struck v ≡ (has_number values v && has_number set v)) → AreCandidates c cell struck
shared_are c cell values set struck is left v has = (is v).0 (and_parts (has_number values v) (has_number set v) (sym (left v) ∙ has)).0

-- pairs that are appended to the trail are removed, where they are of a cell and its candidates
pub missing_strikes : (old new : CandidatesValue) (cell set : ℕ) → IsCandidates old → AreCandidates old cell set → new.size ≡ old.size
    → new.trail ≡ old.trail ++ pairs_of cell set → RemovesAll old new cell set
missing_strikes old new cell set valid there size trail = record {
  size = size;
  trail = trail;
  small = set_below old.size cell set valid.largest (λ v has. (there v has).0);
}

-- the values that the kept set lacks are gone from the cell
pub gone_missing : (old new : CandidatesValue) (cell values kept missing v : ℕ) → IsSetOf old cell values → AreMissing values kept missing
    → RemovesAll old new cell missing → IsPair old.size cell v → has_number kept v ≡ false → may_be new cell v ≡ false
gone_missing old new cell values kept missing v is left s pair lacks =
    elim (cases_Bool (may_be old cell v)) [
      | inl there ↦ gone_struck old new cell missing v s (left.is v ∙ rw ((is v).1 (pair, there), lacks) refl)
      | inr gone ↦ stays_gone old new cell v (struck_earlier old new cell missing s) gone
    ]

-- no other pairs went than those of the cell with values that the kept set lacks
pub rest_missing : (old new : CandidatesValue) (cell values kept missing c v : ℕ) → AreMissing values kept missing
    → RemovesAll old new cell missing → (c ≢ cell) ⊎ (has_number kept v ≡ true) → may_be new c v ≡ may_be old c v
rest_missing old new cell values kept missing c v left s other = grind (arith, nat_tests, rest_struck)

-- Squares that are settled, one after another.
use Rattle.std.proofs.Common.{ℕ, ◌+◌, ◌<◌, sym, subst, ⊎_elim, arith}
use Rattle.std.proofs.lemmas.Bool.{cases_eq}
use Rattle.trail_solver.specs.Candidates.{CandidatesValue, IsOnly}

-- the squares below this one are settled
pub record AreSettledBelow (c : CandidatesValue) (cell : ℕ) : Type 0 where
  pub each : (k : ℕ) → k < cell → (v : ℕ) × IsOnly c k v

-- where the squares below one are settled, and this one is, too, so are those below the next
pub settled_below_more : (c : CandidatesValue) (cell v : ℕ) → AreSettledBelow c cell → IsOnly c cell v → AreSettledBelow c (cell + 1)
settled_below_more c cell v below only = record {
  each = λ k less. ⊎_elim
      (λ e. let Q : ℕ → Type 0 = λ i. (w : ℕ) × IsOnly c i w in subst Q (sym e) (v, only))
      (λ n. below.each k (omega arith))
      (cases_eq k cell);
}

-- Squares that are left nothing: what empties one, and that no chain does where there was a solution.
use Rattle.std.proofs.Common.{◌≡◌, ℕ, ◌*◌, ◌<◌, sym, ◌∙◌, subst}
use Rattle.std.proofs.lemmas.Bool.{both_ways}
use Rattle.latin_board.specs.Squares.{GridValue, number_at}
use Rattle.trail_solver.specs.Candidates.{CandidatesValue, IsWithin, may_be}
use Rattle.trail_solver.specs.Puzzles.{Puzzle, Solves}
use Rattle.line_steps.specs.Left.{IsLeft, without, IsEmptied}
use Rattle.line_steps.specs.Reasons.{Striking}
use Rattle.line_steps.specs.Takes.{Takes}
use Rattle.line_steps.proofs.Takes.{was_left}
use Rattle.line_steps.specs.Chains.{left_by, LeadsTo}
use Rattle.line_steps.proofs.Chains.{left_size}
use Rattle.line_steps.proofs.KeptSolutions.{IsSoundFor, number_left, chain_keeps}
use Rattle.line_steps.specs.declared.grade.Grade.{Grade}

-- where all that is left of a square is taken away, it is left nothing
pub emptied_by : (Which : ℕ → ℕ → Type 0) (a b : CandidatesValue) (cell : ℕ) → Takes Which a b → cell < a.size * a.size
    → ((v : ℕ) → IsLeft a cell v → Which cell v) → IsEmptied b
emptied_by Which a b cell t inside all = (
  cell,
  subst (λ (w : ℕ). cell < w * w) (sym t.size) inside,
  λ v left.
      let is : b ≡ without a t.pairs = λ i. record { size = t.size i; trail = t.trail i } in
      let was : IsLeft a cell v = (was_left a t.pairs cell v (subst (λ d. IsLeft d cell v) is left)).0 in
      both_ways (may_be b cell v) (t.gone cell v was.pair (all v was)) left.may,
)

-- no chain from candidates with a solution leaves a square nothing
pub solved_holds : (p : Puzzle) (Struck : Striking) → IsSoundFor p Struck → (grade : Grade) (g : GridValue) (a b : CandidatesValue)
    → a.size ≡ p.size → Solves p g → IsWithin a g → LeadsTo Struck grade a b → IsEmptied b → ⊥
solved_holds p Struck sound grade g a b size s within h (cell, inside, nothing) =
    let end = left_by a h.steps in
    let end_size : end.size ≡ p.size = left_size a h.steps ∙ size in
    let within_end : IsWithin end g = chain_keeps p Struck sound a h.steps g size h.chain s within in
    let there : cell < end.size * end.size = subst (λ (d : CandidatesValue). cell < d.size * d.size) h.is inside in
    nothing (number_at g cell)
    (subst (λ (d : CandidatesValue). IsLeft d cell (number_at g cell)) (sym h.is) (number_left p end g cell end_size s within_end there))

-- A chain leaves each solution that was within its start.
use Rattle.std.proofs.Common.{◌≡◌, ◌≢◌, ℕ, ◌*◌, ◌<◌, false, List, [], ◌∷◌, refl, subst}
use Rattle.std.proofs.lemmas.Bool.{false_from_ne_true}
use Rattle.latin_board.specs.Squares.{GridValue, number_at}
use Rattle.trail_solver.specs.Pairs.{has_pair}
use Rattle.trail_solver.specs.Candidates.{CandidatesValue, IsWithin}
use Rattle.trail_solver.specs.Puzzles.{Puzzle, Solves}
use Rattle.trail_solver.proofs.FilledGrids.{solution_pair}
use Rattle.line_steps.specs.Left.{IsLeft, without}
use Rattle.line_steps.specs.Chains.{StepValue, IsStep, IsChain, left_by}
use Rattle.line_steps.proofs.Takes.{still_left}
use Rattle.line_steps.specs.declared.reason.Reason.{Reason}
use Rattle.line_steps.specs.Reasons.{Striking}

-- what is struck is in no solution within the candidates
abbrev pub IsSoundFor : Puzzle → Striking → Type 0
IsSoundFor p Struck =
    (c : CandidatesValue) (reason : Reason) (cell value : ℕ) (g : GridValue) → c.size ≡ p.size → Solves p g → IsWithin c g
    → cell < p.size * p.size → Struck c reason cell value → number_at g cell ≢ value

-- the number of a solution within the candidates is left
pub number_left : (p : Puzzle) (c : CandidatesValue) (g : GridValue) (cell : ℕ) → c.size ≡ p.size → Solves p g → IsWithin c g
    → cell < c.size * c.size → IsLeft c cell (number_at g cell)
number_left p c g cell size s within inside = record { pair = solution_pair p g c.size cell s size inside; may = within.each cell inside }

-- a step loses no solution
pub step_keeps : (p : Puzzle) (Struck : Striking) → IsSoundFor p Struck → (c : CandidatesValue) (step : StepValue)
    (g : GridValue) → c.size ≡ p.size → IsStep Struck c step → Solves p g → IsWithin c g → IsWithin (without c step.strikes) g
step_keeps p Struck sound c step g size h s within = record {
  each = λ cell inside.
      let other : has_pair step.strikes cell (number_at g cell) ≡ false =
      false_from_ne_true (has_pair step.strikes cell (number_at g cell)) (λ has.
      let was = h cell (number_at g cell) has in
      let here : cell < p.size * p.size = subst (λ (w : ℕ). cell < w * w) size inside in
      sound c step.reason cell (number_at g cell) g size s within here was.1 refl) in
      (still_left c step.strikes cell (number_at g cell) (number_left p c g cell size s within inside) other).may;
}

-- a chain loses no solution
pub chain_keeps : (p : Puzzle) (Struck : Striking) → IsSoundFor p Struck → (c : CandidatesValue)
    (steps : List StepValue) (g : GridValue) → c.size ≡ p.size → IsChain Struck c steps → Solves p g → IsWithin c g → IsWithin (left_by c steps) g
chain_keeps p Struck sound c [] g size h s within = within
chain_keeps p Struck sound c (step ∷ steps) g size h s within =
    chain_keeps p Struck sound (without c step.strikes) steps g size h.1 s (step_keeps p Struck sound c step g size h.0 s within)

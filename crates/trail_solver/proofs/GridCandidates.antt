-- The candidates that the numbers of a grid leave.
use Rattle.std.proofs.lemmas.Bool.Decides.{nat_tests}
use Rattle.std.proofs.Common.{◌≡◌, ◌↔◌, ℕ, ◌*◌, ◌<◌, ◌≤◌, true, ◌⊎◌, sym, subst, ⊎_elim, arith}
use Rattle.latin_board.specs.Squares.{GridValue, number_at}
use Rattle.trail_solver.specs.Pairs.{IsPair}
use Rattle.trail_solver.specs.Candidates.{CandidatesValue, IsWithin, may_be}
use Rattle.trail_solver.specs.Puzzles.{Puzzle, Solves}
use Rattle.trail_solver.specs.Answers.{Fits}
use Rattle.trail_solver.specs.declared.answer.Answer.{Answer}
use Rattle.trail_solver.specs.declared.answer.Answer.TheVariants.{None}
use Rattle.trail_solver.specs.Completions.{AreOfGrid, Completes, Keeps}
use Rattle.trail_solver.specs.Inner.Among.{IsAmong}
use Rattle.trail_solver.proofs.FilledGrids.{solution_pair}
use Rattle.trail_solver.proofs.JoinedAnswers.{adds_same}

-- the squares before k are done, and the others have all values
pub record AreOfGridBelow (g : GridValue) (c : CandidatesValue) (k : ℕ) : Type 0 where
  pub size : c.size ≡ g.size
  pub each : (cell value : ℕ) → IsPair g.size cell value → cell < k
      → (may_be c cell value ≡ true) ↔ ((number_at g cell ≡ 0) ⊎ (number_at g cell ≡ value))
  pub rest : (cell value : ℕ) → k ≤ cell → may_be c cell value ≡ true

-- a solution keeps the numbers of a grid where it is within the grid's candidates, and there alone
pub within_of_kept : (p : Puzzle) (g h : GridValue) (c : CandidatesValue) → AreOfGrid g c → g.size ≡ p.size → Solves p h → Keeps g h
    → IsWithin c h
within_of_kept p g h c of size s keeps = grind (arith, nat_tests, solution_pair)

pub kept_of_within : (p : Puzzle) (g h : GridValue) (c : CandidatesValue) → AreOfGrid g c → g.size ≡ p.size → Solves p h → IsWithin c h
    → Keeps g h
kept_of_within p g h c of size s within cell inside some =
    let pair = solution_pair p h g.size cell s size inside in
    let left = within.each cell (subst (λ (n : ℕ). cell < n * n) (sym of.size) inside) in
    ⊎_elim (λ z. absurd (omega (arith, z, some))) (λ e. sym e) ((of.each cell (number_at h cell) pair).0 left)

pub among_completes : (p : Puzzle) (g h : GridValue) (c : CandidatesValue) → AreOfGrid g c → g.size ≡ p.size
    → IsAmong p c h ↔ Completes p g h
among_completes p g h c of size =
    (λ m. (m.0, kept_of_within p g h c of size m.0 m.1), λ m. (m.0, within_of_kept p g h c of size m.0 m.1))

-- an answer on the solutions among a grid's candidates is one on the solutions that keep its numbers
pub completions_fit : (p : Puzzle) (g : GridValue) (c : CandidatesValue) (answer : Answer) → AreOfGrid g c → g.size ≡ p.size
    → Fits (IsAmong p c) answer → Fits (Completes p g) answer
completions_fit p g c answer of size fits =
    adds_same (IsAmong p c) (Completes p g) None answer (λ h. (among_completes p g h c of size).0) (λ h. (among_completes p g h c of size).1) fits

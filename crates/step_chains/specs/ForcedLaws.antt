-- Squares that narrowing forces are forced by reasons.
use Rattle.std.specs.Prelude.{◌≡◌, ◌≢◌, ℕ, ◌*◌, ◌<◌}
use Rattle.latin_board.specs.Squares.{GridValue, number_at}
use Rattle.trail_solver.specs.Pairs.{IsPair}
use Rattle.trail_solver.specs.Candidates.{CandidatesValue}
use Rattle.trail_solver.specs.Completions.{AreOfGrid}
use Rattle.trail_solver.specs.Puzzles.{Puzzle}
use Rattle.line_steps.specs.Reasons.{Striking}
use Rattle.line_steps.specs.Struck.{IsNarrowed}
use Rattle.named_steps.specs.Chains.{IsView}
use Rattle.step_chains.specs.NextHints.{IsForcedSquare}

-- the square is empty, and narrowing strikes all its numbers but one at once from these candidates
pub record IsForcedAtOnce (Strikes : CandidatesValue → ℕ → ℕ → Type 0) (g : GridValue) (c : CandidatesValue)
    (cell : ℕ) : Type 0 where
  pub inside : cell < g.size * g.size
  pub empty : number_at g cell ≡ 0
  pub number : ℕ
  pub others : (other : ℕ) → IsPair g.size cell other → other ≢ number → Strikes c cell other

-- if narrowing forces a square from the candidates of the grid's numbers, reasons do from what is in view
abbrev pub ForcesMore : ℕ → (CandidatesValue → ℕ → ℕ → Type 0) → Striking → Type 0
ForcesMore w Strikes Struck =
    (g : GridValue) (c view : CandidatesValue) (cell : ℕ) → g.size ≡ w → AreOfGrid g c → IsView g view
    → IsForcedAtOnce Strikes g c cell → IsForcedSquare Struck g view cell

-- in each puzzle of a game, a square that narrowing forces is forced by reasons from what is in view
abbrev pub NarrowingForcesMore : {P : Type 0} → (P → Puzzle) → (P → Striking) → Type 0
NarrowingForcesMore {P} puzzle Struck = (p : P) → ForcesMore (puzzle p).size (IsNarrowed (Struck p)) (Struck p)

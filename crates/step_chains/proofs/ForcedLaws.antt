-- A square that narrowing forces is forced by reasons, too, from what is in view.
use Rattle.std.proofs.Common.{ℕ, arith}
use Rattle.std.proofs.lemmas.Bool.{cases_eq}
use Rattle.latin_board.specs.Squares.{GridValue}
use Rattle.trail_solver.specs.Candidates.{CandidatesValue}
use Rattle.trail_solver.specs.Completions.{AreOfGrid}
use Rattle.line_steps.specs.Struck.{IsNarrowed}
use Rattle.line_steps.specs.Left.{IsFewer}
use Rattle.named_steps.specs.Chains.{IsView}
use Rattle.line_steps.specs.Reasons.{Striking}
use Rattle.line_steps.proofs.Chains.{IsAntitone}
use Rattle.step_chains.specs.ForcedLaws.{ForcesMore}

-- a pair in view of a grid is among its candidates
view_fewer : (g : GridValue) (c view : CandidatesValue) → AreOfGrid g c → IsView g view → IsFewer c view
view_fewer g c view of in_view = λ cell value left. grind (arith, cases_eq)

-- a square that narrowing forces is forced by reasons, if these strike from fewer candidates all they did
pub forced_by : (w : ℕ) (Struck : Striking) → IsAntitone Struck → ForcesMore w (IsNarrowed Struck) Struck
forced_by w Struck less g c view cell size of in_view f = record {
  inside = f.inside;
  empty = f.empty;
  number = f.number;
  others = λ other pair apart.
      let (reason, is, struck) = f.others other pair apart in
      (reason, less c view reason cell other (view_fewer g c view of in_view) struck);
}

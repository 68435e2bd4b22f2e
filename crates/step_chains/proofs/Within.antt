-- A number that steps show from a start is so in each solution within it.
use Rattle.std.proofs.Common.{◌≡◌, ℕ, ◌*◌, ◌<◌, List, sym, ◌∙◌, subst, arith}
use Rattle.latin_board.specs.Squares.{GridValue, number_at}
use Rattle.trail_solver.specs.Candidates.{CandidatesValue, IsWithin}
use Rattle.trail_solver.specs.Puzzles.{Puzzle, Solves}
use Rattle.trail_solver.specs.Solutions.{KeepsSolutions}
use Rattle.named_steps.specs.Chains.{goal_cell, goal_value}
use Rattle.named_steps.proofs.Kept.{shown_right}
use Rattle.named_steps.specs.declared.goal.Goal.{Goal}
use Rattle.line_steps.specs.Chains.{StepValue, left_by}
use Rattle.line_steps.specs.declared.grade.Grade.{Grade}
use Rattle.line_steps.specs.Reasons.{Striking}
use Rattle.line_steps.proofs.Chains.{left_size}
use Rattle.line_steps.proofs.KeptSolutions.{number_left}
use Rattle.step_chains.specs.Inner.FromEachView.{IsExplainedFrom, IsRefutation}
use Rattle.step_chains.specs.Inner.Views.{IsSeen, seen}

-- a solution within the start is within each view
pub within_seen : (p : Puzzle) (g h : GridValue) (start view : CandidatesValue) → start.size ≡ p.size → IsSeen (seen g start) view
    → view.size ≡ p.size → Solves p h → IsWithin start h → IsWithin view h
within_seen p g h start view size is view_size solves within = grind (arith, number_left)

-- the number that steps explain from a start stands in its square in each solution within the start
pub explained_within : (p : Puzzle) (Struck : Striking) (grade : Grade) (g h : GridValue) (start : CandidatesValue)
    (steps : List StepValue) (goal : Goal) → g.size ≡ p.size → start.size ≡ p.size → (e : IsExplainedFrom Struck grade (seen g start) steps goal)
    → KeepsSolutions p e.view (left_by e.view steps) → Solves p h → IsWithin start h
    → number_at h (goal_cell g.size goal) ≡ goal_value goal
explained_within p Struck grade g h start steps goal size start_size e keeps solves within =
    let inside = keeps h solves (within_seen p g h start e.view start_size e.in_view (e.in_view.size ∙ size) solves within) in
    grind (arith, left_size, shown_right)

-- steps that leave a square nothing from a start leave no solution within it
pub refuted_within : (p : Puzzle) (Struck : Striking) (grade : Grade) (g h : GridValue) (start : CandidatesValue)
    (steps : List StepValue) (cell : ℕ) → g.size ≡ p.size → start.size ≡ p.size → (r : IsRefutation Struck grade (seen g start) steps cell)
    → KeepsSolutions p r.view (left_by r.view steps) → Solves p h → IsWithin start h → ⊥
refuted_within p Struck grade g h start steps cell size start_size r keeps solves within =
    let view_size : r.view.size ≡ p.size = r.in_view.size ∙ size in
    let inside = keeps h solves (within_seen p g h start r.view start_size r.in_view view_size solves within) in
    let end = left_by r.view steps in
    let end_size : end.size ≡ r.view.size = left_size r.view steps in
    let here : cell < end.size * end.size = subst (λ (w : ℕ). cell < w * w) (sym end_size) r.refutes.leaves.inside in
    r.refutes.leaves.nothing (number_at h cell) (number_left p end h cell (end_size ∙ view_size) solves inside here)

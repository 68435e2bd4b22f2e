-- A number that a chain shows is so in each solution that was within its start.
use Rattle.std.proofs.Common.{◌≡◌, ℕ, ◌*◌, ◌<◌, ◌≤◌, List, sym, ◌∙◌, subst, arith}
use Rattle.std.proofs.lemmas.Bool.{cases_eq}
use Rattle.latin_board.specs.Squares.{GridValue, number_at}
use Rattle.latin_board.specs.Lines.{line_cell}
use Rattle.latin_board.proofs.LatinLines.{line_cell_inside, peers_differ, value_at}
use Rattle.trail_solver.specs.Candidates.{CandidatesValue, IsWithin}
use Rattle.trail_solver.specs.Puzzles.{Puzzle, Solves}
use Rattle.trail_solver.specs.Completions.{Completes}
use Rattle.trail_solver.proofs.FilledGrids.{solution_pair}
use Rattle.named_steps.specs.Chains.{IsShown, IsView, IsGoalOf, goal_cell, goal_value, IsExplained}
use Rattle.line_steps.specs.Chains.{StepValue}
use Rattle.line_steps.proofs.Chains.{left_size}
use Rattle.line_steps.specs.declared.grade.Grade.{Grade}
use Rattle.named_steps.specs.declared.goal.Goal.{Goal}
use Rattle.named_steps.specs.declared.goal.Goal.TheVariants.{OnlyValue, OnlyPlace}
use Rattle.line_steps.specs.Reasons.{Striking}
use Rattle.line_steps.proofs.KeptSolutions.{IsSoundFor, number_left, chain_keeps}

-- a goal that candidates show is so in each solution within them
pub shown_right : (p : Puzzle) (c : CandidatesValue) (goal : Goal) (g : GridValue) → c.size ≡ p.size → Solves p g → IsWithin c g
    → IsGoalOf c.size goal → IsShown c goal → number_at g (goal_cell c.size goal) ≡ goal_value goal
shown_right p c (OnlyValue cell value) g size s within is h = h (number_at g cell) (number_left p c g cell size s within is.inside)
shown_right p c (OnlyPlace line index value) g size s within is h =
    let P : ℕ → Type 0 = λ n. (line v : ℕ) → line < 2 * n → 1 ≤ v → v ≤ n → (k : ℕ) × (k < n) × (number_at g (line_cell n line k) ≡ v) in
    let at = subst P (s.same_size ∙ sym size) (value_at g s.latin) line value is.0 is.2 is.3 in
    grind (arith, number_left, line_cell_inside)

-- a solution that keeps the numbers of a grid is within the candidates in view of it
pub completion_in_view : (p : Puzzle) (g h : GridValue) (c : CandidatesValue) → g.size ≡ p.size → IsView g c → Completes p g h → IsWithin c h
completion_in_view p g h c size view done = grind (arith, solution_pair, cases_eq, peers_differ)

-- the number that a chain explains stands in its square in each solution that completes the grid
pub explained_right : (p : Puzzle) (Struck : Striking) → IsSoundFor p Struck → (grade : Grade) (g h : GridValue)
    (steps : List StepValue) (goal : Goal) → g.size ≡ p.size → IsExplained Struck grade g steps goal → Completes p g h
    → number_at h (goal_cell g.size goal) ≡ goal_value goal
explained_right p Struck sound grade g h steps goal size e done =
    let view_size : e.view.size ≡ p.size = e.in_view.size ∙ size in
    let within = chain_keeps p Struck sound e.view steps h view_size e.explains.shows.chain done.0 (completion_in_view p g h e.view size e.in_view done) in
    grind (arith, left_size, shown_right)

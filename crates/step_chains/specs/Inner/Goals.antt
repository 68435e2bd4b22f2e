-- Goals that candidates show in a grid.
use Rattle.std.specs.Prelude.{◌≡◌}
use Rattle.latin_board.specs.Squares.{GridValue, number_at}
use Rattle.trail_solver.specs.Candidates.{CandidatesValue}
use Rattle.named_steps.specs.Chains.{IsGoalOf, IsShown, goal_cell}
use Rattle.step_chains.specs.Inner.Views.{SeenValue, IsSeen}
use Rattle.line_steps.specs.Settled.{IsClosure}
use Rattle.line_steps.specs.declared.grade.Grade.{Grade}
use Rattle.named_steps.specs.declared.goal.Goal.{Goal}
use Rattle.line_steps.specs.Reasons.{Striking}

-- the goal speaks of an empty square of the grid
abbrev pub IsOfEmptySquare : GridValue → Goal → Type 0
IsOfEmptySquare g goal = IsGoalOf g.size goal × (number_at g (goal_cell g.size goal) ≡ 0)

-- the goal speaks of an empty square of the grid, and the candidates show it
pub record IsOpenShown (g : GridValue) (c : CandidatesValue) (goal : Goal) : Type 0 where
  pub goal_of : IsGoalOf g.size goal
  pub empty : number_at g (goal_cell g.size goal) ≡ 0
  pub shown : IsShown c goal

-- from each view, the candidates that the grade leaves show the goal
abbrev pub IsShownByAll : Striking → Grade → SeenValue → Goal → Type 0
IsShownByAll Struck grade g goal =
    (view d : CandidatesValue) → IsSeen g view → IsClosure Struck grade view d → IsShown d goal

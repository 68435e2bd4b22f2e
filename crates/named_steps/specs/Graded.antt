-- Which puzzles follow by a grade.
use Rattle.std.specs.Prelude.{Option, Some, None}
use Rattle.latin_board.specs.Squares.{GridValue}
use Rattle.trail_solver.specs.Puzzles.{Puzzle, Solves}
use Rattle.named_steps.specs.Following.{Follows}
use Rattle.line_steps.specs.Grades.{IsLower}
use Rattle.line_steps.specs.declared.grade.Grade.{Grade}
use Rattle.line_steps.specs.Reasons.{Striking}

-- the grid is a solution that follows by the grade
pub record IsSolutionBy (p : Puzzle) (Struck : Striking) (grade : Grade) (g : GridValue) : Type 0 where
  pub solves : Solves p g
  pub follows : Follows Struck grade g

-- some solution follows by the grade
abbrev pub FollowsBy : Puzzle → Striking → Grade → Type 0
FollowsBy p Struck grade = (g : GridValue) × IsSolutionBy p Struck grade g

-- the puzzle follows by the grade and by none below it; or, where there is none, by no grade
abbrev pub IsGradeOf : Puzzle → Striking → Option Grade → Type 0
IsGradeOf p Struck None = (grade : Grade) → FollowsBy p Struck grade → ⊥
IsGradeOf p Struck (Some grade) =
    FollowsBy p Struck grade × ((lower : Grade) → IsLower lower grade → FollowsBy p Struck lower → ⊥)

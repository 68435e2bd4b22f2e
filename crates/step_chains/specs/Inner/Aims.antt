-- The aims to which the steps of a chain come: a goal, or a square that is left nothing.
use Rattle.std.specs.Prelude.{◌≡◌, ℕ, ◌*◌, ◌<◌, ◌⊎◌, List, []}
use Rattle.step_chains.specs.Inner.Views.{SeenValue, IsSeen}
use Rattle.trail_solver.specs.Candidates.{CandidatesValue}
use Rattle.line_steps.specs.Left.{IsLeft}
use Rattle.named_steps.specs.Chains.{IsGoalOf, Shows, IsTight}
use Rattle.line_steps.specs.Chains.{StepValue, LeadsTo}
use Rattle.line_steps.specs.Settled.{IsClosure}
use Rattle.line_steps.specs.declared.grade.Grade.{Grade}
use Rattle.line_steps.specs.declared.grade.Grade.TheVariants.{Hard}
use Rattle.named_steps.specs.declared.goal.Goal.{Goal}
use Rattle.named_steps.specs.declared.goal.Goal.TheVariants.{OnlyValue}
use Rattle.step_chains.specs.declared.aims.Aim.{Aim}
use Rattle.step_chains.specs.declared.aims.Aim.TheVariants.{Number, Nothing}
use Rattle.step_chains.specs.declared.first_aims.LeastAim.{LeastAim}
use Rattle.step_chains.specs.ChainValues.{HasSome}
use Rattle.step_chains.specs.NextHints.{IsForcedSquare}
use Rattle.step_chains.specs.Inner.FromEachView.{IsTimelyFrom, IsRefutedGrid, NothingIsShown, NoneBelowShows, NoneBelowRefutes}
use Rattle.step_chains.specs.Inner.Goals.{IsOfEmptySquare, IsShownByAll}
use Rattle.line_steps.specs.Reasons.{Striking}

-- the goal that an aim stands for; that a square is left nothing is said as: nothing but 0 is left of it
abbrev pub aim_goal : Aim → Goal
aim_goal (Number goal) = goal
aim_goal (Nothing cell) = OnlyValue cell 0

-- the aim speaks of squares and numbers of the size
abbrev pub IsAimOf : ℕ → Aim → Type 0
IsAimOf w (Number goal) = IsGoalOf w goal
IsAimOf w (Nothing cell) = cell < w * w

-- from what is in view of the grid the steps come to the goal, and none of them can be left out
pub record IsReached (Struck : Striking) (grade : Grade) (g : SeenValue) (steps : List StepValue)
    (goal : Goal) : Type 0 where
  pub view : CandidatesValue
  pub in_view : IsSeen g view
  pub shows : Shows Struck grade view steps goal
  pub tight : IsTight Struck grade view steps goal

-- nothing is left of the square
abbrev pub IsLeftNothing : CandidatesValue → ℕ → Type 0
IsLeftNothing c cell = (cell < c.size * c.size) × ((value : ℕ) → IsLeft c cell value → ⊥)

-- the second aim is a square that is left nothing; or something is left of each square, and it is the first
abbrev pub IsAimOrNothing : CandidatesValue → Aim → Aim → Type 0
IsAimOrNothing c aim end = ((cell : ℕ) × IsLeftNothing c cell × (end ≡ Nothing cell)) ⊎ (HasSome c × (end ≡ aim))

-- the second aim is the first, or a square that steps of the grade leave nothing
abbrev pub IsAimOrRefuted : Striking → Grade → SeenValue → Aim → Aim → Type 0
IsAimOrRefuted Struck grade g aim end = ((cell : ℕ) × (end ≡ Nothing cell) × IsRefutedGrid Struck grade g) ⊎ (end ≡ aim)

-- steps of the grade lead from what is in view of the grid to these candidates
abbrev pub AreLeftBy : Striking → Grade → SeenValue → CandidatesValue → Type 0
AreLeftBy Struck grade g c = (view : CandidatesValue) × IsSeen g view × LeadsTo Struck grade view c

-- these candidates are all that the grade leaves of what is in view, and something is left of each square
abbrev pub IsOver : Striking → Grade → SeenValue → CandidatesValue → Type 0
IsOver Struck grade g c = (view : CandidatesValue) × IsSeen g view × IsClosure Struck grade view c × HasSome c

-- no steps show a number of an empty square, none refute the grid's numbers, and no square is forced
pub record LeadNowhere (Struck : Striking) (g : SeenValue) : Type 0 where
  pub timely : IsTimelyFrom g []
  pub shown : NothingIsShown Struck Hard g
  pub holds : IsRefutedGrid Struck Hard g → ⊥
  pub forced : (view : CandidatesValue) (cell : ℕ) → IsSeen g view → IsForcedSquare Struck g.grid view cell → ⊥

-- all steps of the grade together come to the aim, and those of no grade below to one of its kind; if the aim
-- is a number, no steps refute the grid's numbers
abbrev pub IsLeastBy : Striking → SeenValue → Grade → Aim → Type 0
IsLeastBy Struck g grade (Number goal) =
    IsOfEmptySquare g.grid goal × IsShownByAll Struck grade g goal × NoneBelowShows Struck grade g
    × (IsRefutedGrid Struck Hard g → ⊥)
IsLeastBy Struck g grade (Nothing cell) =
    (cell < g.grid.size * g.grid.size) × IsShownByAll Struck grade g (OnlyValue cell 0) × NoneBelowRefutes Struck grade g

-- the grade is the least whose steps come to the aim, or to one of its kind
abbrev pub IsLeastAim : Striking → SeenValue → LeastAim → Type 0
IsLeastAim Struck g least = IsLeastBy Struck g least.grade least.aim

-- The parts of a hint, each with a view of its own or from every view. In `NextHints` all have the same view.
use Rattle.std.specs.Prelude.{◌≢◌, ℕ, List, []}
use Rattle.step_chains.specs.Inner.Views.{SeenValue, IsSeen}
use Rattle.trail_solver.specs.Candidates.{CandidatesValue}
use Rattle.named_steps.specs.Chains.{Explains}
use Rattle.named_steps.specs.Following.{IsRefuted}
use Rattle.line_steps.specs.Chains.{StepValue}
use Rattle.line_steps.specs.Grades.{IsLower}
use Rattle.line_steps.specs.declared.grade.Grade.{Grade}
use Rattle.line_steps.specs.declared.grade.Grade.TheVariants.{Hard}
use Rattle.named_steps.specs.declared.goal.Goal.{Goal}
use Rattle.named_steps.specs.declared.goal.Goal.TheVariants.{OnlyValue}
use Rattle.step_chains.specs.declared.hints.NextHint.{NextHint}
use Rattle.step_chains.specs.declared.hints.NextHint.TheVariants.{Follows, Refuted, Nothing}
use Rattle.step_chains.specs.ChainValues.{AreAllNeeded, steps_of}
use Rattle.step_chains.specs.Explanations.{Refutes}
use Rattle.step_chains.specs.NextHints.{NothingFollows, IsForcedSquare}
use Rattle.step_chains.specs.Inner.Replays.{AreTimely}
use Rattle.line_steps.specs.Reasons.{Striking}

-- the steps explain the goal from what is in view
pub record IsExplainedFrom (Struck : Striking) (grade : Grade) (g : SeenValue) (steps : List StepValue)
    (goal : Goal) : Type 0 where
  pub view : CandidatesValue
  pub in_view : IsSeen g view
  pub explains : Explains Struck grade g.grid view steps goal

-- a refutation: from what is in view the steps leave the square nothing, and each is needed
pub record IsRefutation (Struck : Striking) (grade : Grade) (g : SeenValue) (steps : List StepValue)
    (cell : ℕ) : Type 0 where
  pub view : CandidatesValue
  pub in_view : IsSeen g view
  pub refutes : Refutes Struck grade view steps cell

-- no chain of the grade's steps from what is in view shows a number of an empty square
abbrev pub NothingIsShown : Striking → Grade → SeenValue → Type 0
NothingIsShown Struck grade g = (view : CandidatesValue) → IsSeen g view → NothingFollows Struck grade g.grid view

-- a chain of the grade's steps from what is in view leaves a square nothing
abbrev pub IsRefutedGrid : Striking → Grade → SeenValue → Type 0
IsRefutedGrid Struck grade g = (view : CandidatesValue) × IsSeen g view × IsRefuted Struck grade view

-- from what is in view of the grid each step comes while something is left of each square, and strikes only that
abbrev pub IsTimelyFrom : SeenValue → List StepValue → Type 0
IsTimelyFrom g steps = (view : CandidatesValue) × IsSeen g view × AreTimely view steps

-- from what is in view of the grid no step can strike less with the goal still shown
abbrev pub AreNeededFrom :
    Striking → Grade → SeenValue → List StepValue → Goal → Type 0
AreNeededFrom Struck grade g steps goal =
    (view : CandidatesValue) × IsSeen g view × AreAllNeeded Struck grade view steps goal

-- the steps of no grade below show a number
abbrev pub NoneBelowShows : Striking → Grade → SeenValue → Type 0
NoneBelowShows Struck grade g = (lower : Grade) → IsLower lower grade → NothingIsShown Struck lower g

-- the steps of no grade below refute the grid's numbers
abbrev pub NoneBelowRefutes : Striking → Grade → SeenValue → Type 0
NoneBelowRefutes Struck grade g = (lower : Grade) → IsLower lower grade → IsRefutedGrid Struck lower g → ⊥

-- `Follows`: its steps show the number, steps of no lower grade show any, and no steps refute the numbers;
-- `Refuted`: its steps refute the numbers, and no lower grade's do; `Nothing`: no steps do one or the other
abbrev pub IsNextHint : Striking → SeenValue → NextHint → Type 0
IsNextHint Struck g (Follows grade chain) =
    IsExplainedFrom Struck grade g (steps_of chain.steps.items) chain.goal
    × NoneBelowShows Struck grade g × (IsRefutedGrid Struck Hard g → ⊥)
IsNextHint Struck g (Refuted grade refutation) =
    IsRefutation Struck grade g (steps_of refutation.steps.items) refutation.cell × NoneBelowRefutes Struck grade g
IsNextHint Struck g Nothing = NothingIsShown Struck Hard g × (IsRefutedGrid Struck Hard g → ⊥)

-- the hint's steps are timely from what is in view of the grid; for `Nothing` this says that there is a view
abbrev pub IsTimelyHint : SeenValue → NextHint → Type 0
IsTimelyHint g (Follows grade chain) = IsTimelyFrom g (steps_of chain.steps.items)
IsTimelyHint g (Refuted grade refutation) = IsTimelyFrom g (steps_of refutation.steps.items)
IsTimelyHint g Nothing = IsTimelyFrom g []

-- no number of any step of the hint can be left out; a refutation leaves nothing but 0 of its square
abbrev pub IsNeededHint : Striking → SeenValue → NextHint → Type 0
IsNeededHint Struck g (Follows grade chain) = AreNeededFrom Struck grade g (steps_of chain.steps.items) chain.goal
IsNeededHint Struck g (Refuted grade refutation) =
    AreNeededFrom Struck grade g (steps_of refutation.steps.items) (OnlyValue refutation.cell 0)
IsNeededHint Struck g Nothing = Unit {0}

-- if a square is forced from a view of the grid, the hint says something
abbrev pub SaysAllForced : Striking → SeenValue → NextHint → Type 0
SaysAllForced Struck g hint =
    (view : CandidatesValue) (cell : ℕ) → IsSeen g view → IsForcedSquare Struck g.grid view cell → hint ≢ Nothing

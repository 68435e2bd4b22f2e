-- The next hint of a grid: by the steps of the least grade that lead to one, from what is in view.
use Rattle.std.specs.Prelude.{◌≡◌, ◌≢◌, ℕ, ◌*◌, ◌<◌, List}
use Rattle.latin_board.specs.Squares.{GridValue, number_at}
use Rattle.trail_solver.specs.Pairs.{IsPair}
use Rattle.trail_solver.specs.Candidates.{CandidatesValue, IsWithin}
use Rattle.trail_solver.specs.Completions.{Completes}
use Rattle.trail_solver.specs.Puzzles.{Puzzle, Solves}
use Rattle.named_steps.specs.Chains.{Explains, IsGoalOf, IsView, Shows, goal_cell, goal_value}
use Rattle.named_steps.specs.Following.{IsRefuted}
use Rattle.line_steps.specs.Chains.{StepValue}
use Rattle.line_steps.specs.Grades.{IsLower}
use Rattle.line_steps.specs.declared.reason.Reason.{Reason}
use Rattle.line_steps.specs.declared.grade.Grade.{Grade}
use Rattle.line_steps.specs.declared.grade.Grade.TheVariants.{Hard}
use Rattle.named_steps.specs.declared.goal.Goal.{Goal}
use Rattle.step_chains.specs.declared.hints.NextHint.{NextHint}
use Rattle.step_chains.specs.declared.hints.NextHint.TheVariants.{Follows, Refuted, Nothing}
use Rattle.step_chains.specs.ChainValues.{AreAllNeeded, AreLive, AreNeededForNothing, EndAtOnce, steps_of}
use Rattle.step_chains.specs.Explanations.{Refutes}
use Rattle.line_steps.specs.Reasons.{Striking}

-- no chain of the grade's steps from these candidates shows a number of an empty square
abbrev pub NothingFollows : Striking → Grade → GridValue → CandidatesValue → Type 0
NothingFollows Struck grade g c =
    (steps : List StepValue) (goal : Goal) → IsGoalOf g.size goal → number_at g (goal_cell g.size goal) ≡ 0
    → Shows Struck grade c steps goal → ⊥

-- `Follows`: its steps show the number, steps of no lower grade show any, and no steps refute the numbers;
-- `Refuted`: its steps refute the numbers, and no lower grade's do; `Nothing`: no steps do one or the other
abbrev pub IsLeastFrom : Striking → GridValue → CandidatesValue → NextHint → Type 0
IsLeastFrom Struck g view (Follows grade chain) =
    Explains Struck grade g view (steps_of chain.steps.items) chain.goal
    × ((lower : Grade) → IsLower lower grade → NothingFollows Struck lower g view) × (IsRefuted Struck Hard view → ⊥)
IsLeastFrom Struck g view (Refuted grade refutation) =
    Refutes Struck grade view (steps_of refutation.steps.items) refutation.cell
    × ((lower : Grade) → IsLower lower grade → IsRefuted Struck lower view → ⊥)
IsLeastFrom Struck g view Nothing = NothingFollows Struck Hard g view × (IsRefuted Struck Hard view → ⊥)

-- the hint's steps strike only what those before them leave, and end as soon as any square is left nothing
abbrev pub HasLiveSteps : CandidatesValue → NextHint → Type 0
HasLiveSteps view (Follows grade chain) =
    AreLive view (steps_of chain.steps.items) × EndAtOnce view (steps_of chain.steps.items)
HasLiveSteps view (Refuted grade refutation) =
    AreLive view (steps_of refutation.steps.items) × EndAtOnce view (steps_of refutation.steps.items)
HasLiveSteps view Nothing = Unit {0}

-- no number of any step of the hint can be left out
abbrev pub HasNeededSteps : Striking → CandidatesValue → NextHint → Type 0
HasNeededSteps Struck view (Follows grade chain) =
    AreAllNeeded Struck grade view (steps_of chain.steps.items) chain.goal
HasNeededSteps Struck view (Refuted grade refutation) =
    AreNeededForNothing Struck grade view (steps_of refutation.steps.items) refutation.cell
HasNeededSteps Struck view Nothing = Unit {0}

-- each solution within the candidates has the hint's number; or, if it refutes them, there is none
abbrev pub IsRightWithin : Puzzle → GridValue → CandidatesValue → NextHint → Type 0
IsRightWithin p g view (Follows grade chain) =
    (h : GridValue) → Solves p h → IsWithin view h → number_at h (goal_cell g.size chain.goal) ≡ goal_value chain.goal
IsRightWithin p g view (Refuted grade refutation) = (h : GridValue) → Solves p h → IsWithin view h → ⊥
IsRightWithin p g view Nothing = Unit {0}

-- each solution that keeps the grid's numbers has the hint's number; or, if it refutes them, there is none
abbrev pub IsRightHint : Puzzle → GridValue → NextHint → Type 0
IsRightHint p g (Follows grade chain) =
    (h : GridValue) → Completes p g h → number_at h (goal_cell g.size chain.goal) ≡ goal_value chain.goal
IsRightHint p g (Refuted grade refutation) = (h : GridValue) → Completes p g h → ⊥
IsRightHint p g Nothing = Unit {0}

-- the square is empty, and reasons strike all its numbers but one at once from these candidates
pub record IsForcedSquare (Struck : Striking) (g : GridValue) (c : CandidatesValue) (cell : ℕ) : Type 0 where
  pub inside : cell < g.size * g.size
  pub empty : number_at g cell ≡ 0
  pub number : ℕ
  pub others : (other : ℕ) → IsPair g.size cell other → other ≢ number
      → (reason : Reason) × Struck c reason cell other

-- The hint from these candidates: the steps of the least grade lead to it, each strikes only numbers that are left
-- before it, while something is left of each square, no number of a step can be left out, what they say is so of each
-- solution within them, and where reasons strike all numbers but one from an empty square at once,
-- something is said.
pub record IsHintFrom (p : Puzzle) (Struck : Striking) (g : GridValue) (view : CandidatesValue) (hint : NextHint)
    : Type 0 where
  pub least : IsLeastFrom Struck g view hint
  pub live : HasLiveSteps view hint
  pub needed : HasNeededSteps Struck view hint
  pub right : IsRightWithin p g view hint
  pub forced : (cell : ℕ) → IsForcedSquare Struck g view cell → hint ≢ Nothing

-- the hint of a grid is the one from the candidates that are in view of the grid
pub record IsHint (p : Puzzle) (Struck : Striking) (g : GridValue) (hint : NextHint) : Type 0 where
  pub view : CandidatesValue
  pub in_view : IsView g view
  pub is_hint : IsHintFrom p Struck g view hint
  pub right : IsRightHint p g hint

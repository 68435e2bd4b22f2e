-- Chains of which none of the last steps, or of their numbers, can be left out.
use Rattle.std.specs.Prelude.{◌≡◌, ◌≢◌, ◌↔◌, ℕ, ◌+◌, ◌<◌, ◌≤◌, true, List, ◌∷◌, ◌++◌, length}
use Rattle.number_sets.specs.Sets.{has_number}
use Rattle.trail_solver.specs.Pairs.{has_pair}
use Rattle.trail_solver.specs.Candidates.{CandidatesValue}
use Rattle.named_steps.specs.Chains.{Shows}
use Rattle.line_steps.specs.Chains.{StepValue}
use Rattle.line_steps.specs.declared.grade.Grade.{Grade}
use Rattle.named_steps.specs.declared.goal.Goal.{Goal}
use Rattle.step_chains.specs.declared.chain.Step.{Step}
use Rattle.step_chains.specs.ChainValues.{StrikesLess, step_value, steps_of}
use Rattle.step_chains.specs.Inner.Replays.{AreTimely}
use Rattle.line_steps.specs.Reasons.{Striking}

-- no step from a place on can be left out
abbrev pub IsTightFrom :
    ℕ → Striking → Grade → CandidatesValue → List StepValue → Goal → Type 0
IsTightFrom place Struck grade c steps goal =
    (front back : List StepValue) (step : StepValue) → steps ≡ front ++ step ∷ back → place ≤ length front
    → Shows Struck grade c (front ++ back) goal → ⊥

-- no step from a place on can strike less with the goal still shown
abbrev pub IsNeededFrom :
    ℕ → Striking → Grade → CandidatesValue → List StepValue → Goal → Type 0
IsNeededFrom place Struck grade c steps goal =
    (front back : List StepValue) (step less : StepValue) (cell v : ℕ) → steps ≡ front ++ step ∷ back
    → place ≤ length front → StrikesLess cell v less step → Shows Struck grade c (front ++ less ∷ back) goal → ⊥

-- the step at a place can't do without any of its values below this one
abbrev pub IsNeededBelow :
    ℕ → ℕ → Striking → Grade → CandidatesValue → List StepValue → Goal → Type 0
IsNeededBelow value place Struck grade c steps goal =
    (front back : List StepValue) (step less : StepValue) (cell v : ℕ) → steps ≡ front ++ step ∷ back
    → length front ≡ place → StrikesLess cell v less step → v < value → Shows Struck grade c (front ++ less ∷ back) goal
    → ⊥

-- the step at a place can't strike less with the goal still shown
abbrev pub IsNeededAt :
    ℕ → Striking → Grade → CandidatesValue → List StepValue → Goal → Type 0
IsNeededAt place Struck grade c steps goal =
    (front back : List StepValue) (step less : StepValue) (cell v : ℕ) → steps ≡ front ++ step ∷ back
    → length front ≡ place → StrikesLess cell v less step → Shows Struck grade c (front ++ less ∷ back) goal → ⊥

-- the second step has all values of the first but this one
pub record IsStepWithout (value : ℕ) (step less : Step) : Type 0 where
  pub reason : less.reason ≡ step.reason
  pub cell : less.cell ≡ step.cell
  pub values : (n : ℕ) → (has_number less.values n ≡ true) ↔ ((has_number step.values n ≡ true) × (n ≢ value))

-- the step at a place strikes no more than before, and can't do without the value; all others are as they were
pub record IsLeftOut (Struck : Striking) (grade : Grade)
    (c : CandidatesValue) (place value : ℕ) (old new : List Step) (goal : Goal) : Type 0 where
  pub front : List Step
  pub back : List Step
  pub was : Step
  pub now : Step
  pub at : length front ≡ place
  pub old_is : old ≡ front ++ was ∷ back
  pub new_is : new ≡ front ++ now ∷ back
  pub reason : now.reason ≡ was.reason
  pub among : (cell v : ℕ) → has_pair (step_value now).strikes cell v ≡ true
      → has_pair (step_value was).strikes cell v ≡ true
  pub needed : (less : StepValue) (cell : ℕ) → StrikesLess cell value less (step_value now)
      → Shows Struck grade c (steps_of front ++ less ∷ steps_of back) goal → ⊥

-- no step after a place can be left out or strike less, and the step there needs each value below this one
pub record IsNarrowedBelow (Struck : Striking) (grade : Grade)
    (c : CandidatesValue) (place value : ℕ) (steps : List Step) (goal : Goal) : Type 0 where
  pub tight : IsTightFrom (place + 1) Struck grade c (steps_of steps) goal
  pub needed : IsNeededFrom (place + 1) Struck grade c (steps_of steps) goal
  pub here : IsNeededBelow value place Struck grade c (steps_of steps) goal

-- the steps show the goal, and from a place on none of them can be left out or strike less
pub record IsDoneFrom (Struck : Striking) (grade : Grade)
    (c : CandidatesValue) (place : ℕ) (steps : List Step) (goal : Goal) : Type 0 where
  pub inside : place ≤ length steps
  pub shows : Shows Struck grade c (steps_of steps) goal
  pub tight : IsTightFrom place Struck grade c (steps_of steps) goal
  pub needed : IsNeededFrom place Struck grade c (steps_of steps) goal

-- of the second steps, those from a place on are done; they are timely if the first steps are
pub record IsDoneTo (Struck : Striking) (grade : Grade)
    (c : CandidatesValue) (place : ℕ) (old new : List Step) (goal : Goal) : Type 0 where
  pub done : IsDoneFrom Struck grade c place new goal
  pub timely : AreTimely c (steps_of old) → AreTimely c (steps_of new)

-- of the second steps, those after a place are done, and the one there can't strike less
pub record IsNarrowedTo (Struck : Striking) (grade : Grade)
    (c : CandidatesValue) (place : ℕ) (old new : List Step) (goal : Goal) : Type 0 where
  pub done : IsDoneFrom Struck grade c (place + 1) new goal
  pub here : IsNeededAt place Struck grade c (steps_of new) goal
  pub timely : AreTimely c (steps_of old) → AreTimely c (steps_of new)

-- The steps of a chain, as what is struck by each.
use Rattle.std.specs.Prelude.{◌≡◌, ℕ, ◌*◌, ◌<◌, true, false, List, [], ◌∷◌, ◌++◌, map}
use Rattle.trail_solver.specs.Pairs.{pairs_of, has_pair}
use Rattle.trail_solver.specs.Candidates.{CandidatesValue}
use Rattle.line_steps.specs.Left.{IsLeft, without}
use Rattle.named_steps.specs.Chains.{Shows}
use Rattle.line_steps.specs.Chains.{StepValue, IsChain, AreOfGrade, left_by}
use Rattle.line_steps.specs.declared.grade.Grade.{Grade}
use Rattle.named_steps.specs.declared.goal.Goal.{Goal}
use Rattle.step_chains.specs.declared.chain.Step.{Step}
use Rattle.line_steps.specs.Reasons.{Striking}

-- a step, with the pairs of its square and its values
abbrev pub step_value : Step → StepValue
step_value s = record { reason = s.reason; strikes = pairs_of s.cell s.values }

-- steps one after another
abbrev pub steps_of : List Step → List StepValue
steps_of steps = map step_value steps

-- the steps are a chain of the grade's, and leave the square nothing
pub record LeavesNothing (Struck : Striking) (grade : Grade) (c : CandidatesValue) (steps : List StepValue)
    (cell : ℕ) : Type 0 where
  pub chain : IsChain Struck c steps
  pub allowed : AreOfGrade grade steps
  pub inside : cell < c.size * c.size
  pub nothing : (value : ℕ) → IsLeft (left_by c steps) cell value → ⊥

-- the step strikes only what is left
abbrev pub IsLiveStep : CandidatesValue → StepValue → Type 0
IsLiveStep c step = (cell value : ℕ) → has_pair step.strikes cell value ≡ true → IsLeft c cell value

-- each step strikes only pairs that the steps before it leave
abbrev pub AreLive : CandidatesValue → List StepValue → Type 0
AreLive c [] = Unit {0}
AreLive c (step ∷ steps) = IsLiveStep c step × AreLive (without c step.strikes) steps

-- something is left of each square
abbrev pub HasSome : CandidatesValue → Type 0
HasSome c = (cell : ℕ) → cell < c.size * c.size → (value : ℕ) × IsLeft c cell value

-- before each step something is left of each square: the steps end as soon as any square is left nothing
abbrev pub EndAtOnce : CandidatesValue → List StepValue → Type 0
EndAtOnce c [] = Unit {0}
EndAtOnce c (step ∷ steps) = HasSome c × EndAtOnce (without c step.strikes) steps

-- the first step strikes less than the second: by the same reason some of its pairs, and not this one of them
pub record StrikesLess (cell value : ℕ) (less step : StepValue) : Type 0 where
  pub reason : less.reason ≡ step.reason
  pub among : (k v : ℕ) → has_pair less.strikes k v ≡ true → has_pair step.strikes k v ≡ true
  pub has : has_pair step.strikes cell value ≡ true
  pub lacks : has_pair less.strikes cell value ≡ false

-- no step can strike less with the goal still shown: no number of any step can be left out
abbrev pub AreAllNeeded :
    Striking → Grade → CandidatesValue → List StepValue → Goal → Type 0
AreAllNeeded Struck grade c steps goal =
    (front back : List StepValue) (step less : StepValue) (cell value : ℕ) → steps ≡ front ++ step ∷ back
    → StrikesLess cell value less step → Shows Struck grade c (front ++ less ∷ back) goal → ⊥

-- no step can strike less with the square still left nothing: no number of any step can be left out
abbrev pub AreNeededForNothing :
    Striking → Grade → CandidatesValue → List StepValue → ℕ → Type 0
AreNeededForNothing Struck grade c steps emptied =
    (front back : List StepValue) (step less : StepValue) (cell value : ℕ) → steps ≡ front ++ step ∷ back
    → StrikesLess cell value less step → LeavesNothing Struck grade c (front ++ less ∷ back) emptied → ⊥

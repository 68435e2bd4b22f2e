-- Looks: steps one after another that have one reason and hold at once, and are told together.
use Rattle.std.specs.Prelude.{◌≡◌, ◌<◌, ℕ, true, List, [], ◌∷◌, All}
use Rattle.number_sets.specs.Sets.{has_number}
use Rattle.trail_solver.specs.Pairs.{IsPair}
use Rattle.trail_solver.specs.Candidates.{CandidatesValue, may_be}
use Rattle.line_steps.specs.declared.reason.Reason.{Reason}
use Rattle.step_chains.specs.declared.chain.Step.{Step}
use Rattle.line_steps.specs.Reasons.{Striking}

-- each number of the step is left of its square, and its reason strikes it there, by what is left
abbrev pub HoldsAt : Striking → ℕ → CandidatesValue → Step → Type 0
HoldsAt Struck w c step = (v : ℕ) → has_number step.values v ≡ true
    → (c.size ≡ w) × (IsPair c.size step.cell v × (may_be c step.cell v ≡ true) × Struck c step.reason step.cell v)

-- the step can be told with steps of a reason, of which the last is at this square: it has the reason, its square is
-- after that one, and it holds where they do
pub record IsJoinable (Struck : Striking) (w : ℕ) (c : CandidatesValue) (reason : Reason) (after : ℕ)
    (step : Step) : Type 0 where
  pub same : step.reason ≡ reason
  pub later : after < step.cell
  pub holds : HoldsAt Struck w c step

-- the square of each step is after that of the one before it, and that of the first is after this one
abbrev pub AreRising : ℕ → List Step → Type 0
AreRising cell [] = Unit {0}
AreRising cell (step ∷ steps) = (cell < step.cell) × AreRising step.cell steps

-- the square of the last of the steps, or this one where there are none
abbrev pub last_cell : ℕ → List Step → ℕ
last_cell cell [] = cell
last_cell cell (step ∷ steps) = last_cell step.cell steps

-- the steps are told with the first one: they have its reason, hold where it stands, and are in the order of their
-- squares, of which none comes twice
pub record AreJoined (Struck : Striking) (w : ℕ) (c : CandidatesValue) (first : Step) (steps : List Step) : Type 0 where
  pub one : All (λ step. step.reason ≡ first.reason) steps
  pub hold : All (λ step. HoldsAt Struck w c step) steps
  pub rising : AreRising first.cell steps

-- the next step, if there is one, can't be told with these
abbrev pub HasNoMore : Striking → ℕ → CandidatesValue → Step → List Step → List Step → Type 0
HasNoMore Struck w c first steps [] = Unit {0}
HasNoMore Struck w c first steps (step ∷ rest) =
    IsJoinable Struck w c first.reason (last_cell first.cell steps) step → ⊥

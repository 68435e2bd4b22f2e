-- Goals that candidates show in a grid, looked for one by one.
use Rattle.std.proofs.lemmas.Bool.Decides.{nat_tests}
use Rattle.std.proofs.Common.{ℕ, ◌+◌, ◌<◌, arith}
use Rattle.std.proofs.lemmas.Bool.{cases_eq}
use Rattle.std.specs.Prelude.{MatchOption, Option}
use Rattle.latin_board.specs.Squares.{GridValue}
use Rattle.trail_solver.specs.Candidates.{CandidatesValue}
use Rattle.named_steps.specs.declared.goal.Goal.{Goal}
use Rattle.named_steps.specs.declared.goal.Goal.TheVariants.{OnlyValue, OnlyPlace}
use Rattle.step_chains.specs.Inner.Goals.{IsOpenShown}

-- a property of no number below k, and not of k, is one of none below k + 1
pub none_next : (P : ℕ → Type 0) (k : ℕ) → ((j : ℕ) → j < k → P j → ⊥) → (P k → ⊥) → (j : ℕ) → j < k + 1 → P j → ⊥
none_next P k before here j low h = grind (arith, cases_eq)

-- if no only value of a square and no only place of a value is shown, no goal is
pub no_goal : (g : GridValue) (c : CandidatesValue) → ((cell value : ℕ) → IsOpenShown g c (OnlyValue cell value) → ⊥)
    → ((line index value : ℕ) → IsOpenShown g c (OnlyPlace line index value) → ⊥) → (goal : Goal) → IsOpenShown g c goal → ⊥
no_goal g c values places (OnlyValue cell value) h = values cell value h
no_goal g c values places (OnlyPlace line index value) h = places line index value h

-- if no only value of a square is shown, a search of the lines for only places tells of all goals
pub goal_found : (g : GridValue) (c : CandidatesValue) (found : Option Goal) → ((cell value : ℕ) → IsOpenShown g c (OnlyValue cell value) → ⊥)
    → MatchOption found ((line index value : ℕ) → IsOpenShown g c (OnlyPlace line index value) → ⊥) (IsOpenShown g c)
    → MatchOption found ((goal : Goal) → IsOpenShown g c goal → ⊥) (IsOpenShown g c)
goal_found g c found none h = grind (arith, nat_tests, no_goal)

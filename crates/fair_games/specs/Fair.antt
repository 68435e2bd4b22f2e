-- The format: which of the fair games a size, a grade and a seed give. It is the pruned puzzle of the first draw that
-- gives one of the grade. The promise of each of them stands in `FairGames`.
use Rattle.std.specs.Prelude.{◌≡◌, ℕ, ◌<◌, Bool, true, false, List, Result, Ok, Err}
use Rattle.latin_board.specs.Squares.{GridValue}
use Rattle.trail_solver.specs.declared.rules.Rules.{Ghosts}
use Rattle.named_steps.specs.Following.{Follows}
use Rattle.line_steps.specs.declared.grade.Grade.{Grade}
use Rattle.fair_games.specs.FairGames.{IsOfGrade}
use Rattle.fair_games.specs.Pruned.{IsPrunedBy}
use Rattle.fair_games.specs.declared.fair_fault.FairFault.{FairFault}
use Rattle.fair_games.specs.declared.fair_fault.FairFault.TheVariants.{NotOffered, NoneFound}
use Rattle.line_steps.specs.Reasons.{Striking}

-- the square doesn't follow by the puzzle's steps of the grade
abbrev pub FailsBy : {P : Type 0} → (P → Striking) → Grade → GridValue → P → Type 0
FailsBy Struck grade g p = Follows (Struck p) grade g → ⊥

-- the pruned puzzle of a draw, by the grade
abbrev pub IsPrunedGame : {P : Type 0} → Ghosts P → (P → Striking) → Grade → GridValue × List ℕ → P → Type 0
IsPrunedGame f Struck grade draw p = IsPrunedBy f (FailsBy Struck grade draw.0) draw.0 draw.1 p

-- the pruned puzzle of a draw is of another grade
pub record IsPassedOver {P : Type 0} (f : Ghosts P) (Struck : P → Striking) (grade : Grade)
    (draw : GridValue × List ℕ) : Type 0 where
  pub puzzle : P
  pub pruned : IsPrunedGame f Struck grade draw puzzle
  pub other : IsOfGrade f Struck grade puzzle → ⊥

-- how many draws are made at most
abbrev pub most_draws : ℕ
most_draws = 512

-- the pruned puzzle of the first draw that gives one of the grade
pub record IsFair {P : Type 0} (f : Ghosts P) (Struck : P → Striking) (grade : Grade) (draws : ℕ → GridValue × List ℕ)
    (p : P) : Type 0 where
  pub draw : ℕ
  pub few : draw < most_draws
  pub pruned : IsPrunedGame f Struck grade (draws draw) p
  pub graded : IsOfGrade f Struck grade p
  pub earlier : (n : ℕ) → n < draw → IsPassedOver f Struck grade (draws n)

-- a fair game of an offered size and grade; or `NotOffered`; or `NoneFound`, where all draws are passed over
abbrev pub IsFairResult : {P : Type 0} → Ghosts P → (P → Striking) → Grade → Bool → (ℕ → GridValue × List ℕ)
    → Result P FairFault → Type 0
IsFairResult f Struck grade offered draws (Ok p) = (offered ≡ true) × IsFair f Struck grade draws p
IsFairResult f Struck grade offered draws (Err NotOffered) = offered ≡ false
IsFairResult f Struck grade offered draws (Err NoneFound) =
    (offered ≡ true) × ((n : ℕ) → n < most_draws → IsPassedOver f Struck grade (draws n))

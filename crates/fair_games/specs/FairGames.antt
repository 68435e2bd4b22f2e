-- The promise of a fair game to its player, whichever size, grade and seed it is of. Which of these games a
-- seed gives is a format (`Fair`).
use Rattle.std.specs.Prelude.{◌≡◌, ℕ, ◌-◌, ◌*◌, ◌<◌, ◌≤◌, Bool, false, Some, IsTrue}
use Rattle.latin_board.specs.Squares.{GridValue}
use Rattle.trail_solver.specs.Solutions.{IsOnlySolution}
use Rattle.trail_solver.specs.declared.rules.Rules.{Ghosts}
use Rattle.line_steps.specs.Reasons.{Striking}
use Rattle.named_steps.specs.Following.{Follows}
use Rattle.named_steps.specs.Graded.{FollowsBy, IsGradeOf}
use Rattle.line_steps.specs.declared.grade.Grade.{Grade}
use Rattle.fair_games.specs.declared.trial.Trial.{Trial}
use Rattle.fair_games.specs.declared.trial.Trial.TheVariants.{GivensAlone}

-- the puzzle follows by the grade
abbrev pub IsByGrade : {P : Type 0} → Ghosts P → (P → Striking) → Grade → P → Type 0
IsByGrade f Struck grade p = FollowsBy (f.puzzle p) (Struck p) grade

-- the puzzle doesn't follow by the grade
abbrev pub IsBeyondGrade : {P : Type 0} → Ghosts P → (P → Striking) → Grade → P → Type 0
IsBeyondGrade f Struck grade p = IsByGrade f Struck grade p → ⊥

-- the puzzle follows by the grade, and not by the one below
abbrev pub IsOfGrade : {P : Type 0} → Ghosts P → (P → Striking) → Grade → P → Type 0
IsOfGrade f Struck grade p = IsGradeOf (f.puzzle p) (Struck p) (Some grade)

-- the item is tried: each given is, and so is each clue or sign, which come first, unless givens alone are
abbrev pub IsTriedIn : Trial → ℕ → ℕ → Type 0
IsTriedIn trial count i = trial ≡ GivensAlone → count ≤ i

-- the puzzle doesn't follow by the grade once some of its items go, if one of them is an item that is tried
abbrev pub NeedsItems : {P : Type 0} → Ghosts P → (P → Striking) → Grade → Trial → ℕ → P → Type 0
NeedsItems f Struck grade trial w p =
    (keep : ℕ → Bool) (i : ℕ) → i < f.items_of w → IsTrue (f.has p i) → IsTriedIn trial (f.items_of w - w * w) i
    → keep i ≡ false
    → FollowsBy (f.puzzle (f.cut p keep)) (Struck (f.cut p keep)) grade → ⊥

-- The promise: the puzzle has the width and one solution, which follows by the grade; it doesn't follow by the grade
-- below; and no item that is tried can be spared.
pub record IsFairGame {P : Type 0} (f : Ghosts P) (Struck : P → Striking) (grade : Grade) (trial : Trial) (w : ℕ)
    (p : P) : Type 0 where
  pub size : (f.puzzle p).size ≡ w
  pub solution : GridValue
  pub only : IsOnlySolution (f.puzzle p) solution
  pub follows : Follows (Struck p) grade solution
  pub graded : IsOfGrade f Struck grade p
  pub needed : NeedsItems f Struck grade trial w p

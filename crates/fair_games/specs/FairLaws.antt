-- The laws of fair games.
use Rattle.std.specs.Prelude.{◌≡◌, ℕ, ◌<◌, Bool, false, List, IsTrue}
use Rattle.latin_board.specs.Squares.{GridValue}
use Rattle.trail_solver.specs.declared.rules.Rules.{Ghosts}
use Rattle.line_steps.specs.declared.grade.Grade.{Grade}
use Rattle.fair_games.specs.Pruned.{IsTried}
use Rattle.fair_games.specs.Fair.{FailsBy, IsPrunedGame}
use Rattle.line_steps.specs.Reasons.{Striking}

-- the pruned puzzle of a draw doesn't follow once some of its items go, if one of them was tried
abbrev pub ItemsAreNeeded : {P : Type 0} → Ghosts P → (P → Striking) → Type 0
ItemsAreNeeded {P} f Struck =
    (grade : Grade) (draw : GridValue × List ℕ) (p : P) (keep : ℕ → Bool) (i : ℕ) → IsPrunedGame f Struck grade draw p
    → i < f.items_of draw.0.size → IsTrue (f.has p i) → IsTried i draw.1 → keep i ≡ false
    → FailsBy Struck grade draw.0 (f.cut p keep)

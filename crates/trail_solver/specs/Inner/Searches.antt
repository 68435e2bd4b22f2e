-- A search as contracts see it.
use Rattle.std.specs.Prelude.{◌≡◌, ◌↔◌, Bool}
use Rattle.std.specs.Bool.{OnFalse}
use Rattle.latin_board.specs.Squares.{GridValue}
use Rattle.trail_solver.specs.Candidates.{CandidatesValue, IsEarlier}
use Rattle.trail_solver.specs.Puzzles.{Puzzle}
use Rattle.trail_solver.specs.Inner.Among.{IsAmong}

-- the rules of a puzzle, and the candidates that are left in its squares; where the search failed isn't seen
pub record SearchValue (P : Type 0) : Type 0 where
  pub rules : P
  pub candidates : CandidatesValue

-- the later search has the same rules, and its candidates are later ones
pub record IsFurther {P : Type 0} (earlier later : SearchValue P) : Type 0 where
  pub rules : later.rules ≡ earlier.rules
  pub less : IsEarlier earlier.candidates later.candidates

-- A and B hold of the same grids
abbrev pub AreSame : (GridValue → Type 0) → (GridValue → Type 0) → Type 0
AreSame A B = (g : GridValue) → A g ↔ B g

-- pairs went that no solution among the candidates has; false tells that there is none
pub record NarrowsSearch {P : Type 0} (puzzle : P → Puzzle) (old new : SearchValue P) (result : Bool) : Type 0 where
  pub further : IsFurther old new
  pub same : AreSame (IsAmong (puzzle old.rules) old.candidates) (IsAmong (puzzle new.rules) new.candidates)
  pub refutes : OnFalse result ((g : GridValue) → IsAmong (puzzle old.rules) old.candidates g → ⊥)

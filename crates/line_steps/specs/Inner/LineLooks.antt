-- Lines that wait to be looked at, and what holds of those that don't.
use Rattle.std.specs.Prelude.{◌≡◌, ℕ, ◌*◌, ◌<◌, Bool, true, false, not}
use Rattle.number_sets.specs.Sets.{has_number}
use Rattle.trail_solver.specs.Candidates.{CandidatesValue}
use Rattle.line_steps.specs.Along.{IsQuietAlong, StaysOn}
use Rattle.line_steps.specs.Inner.ChangedLines.{HasNoneBelow, IsTaken}
use Rattle.line_steps.specs.Inner.LineStrikes.{IsLineSettled}
use Rattle.line_steps.specs.declared.grade.Grade.{Grade}
use Rattle.line_steps.specs.declared.lines.waiting.Waiting.{Waiting}
use Rattle.line_steps.specs.Reasons.{Striking}

-- for squares: those of the line strike nothing in one another and can hold its numbers; for clues and signs:
-- those along the line strike nothing that is left, as the grade looks at them
abbrev pub IsQuietOn : Striking → Grade → Bool → ℕ → CandidatesValue → Type 0
IsQuietOn Struck grade true line c = IsLineSettled line c
IsQuietOn Struck grade false line c = IsQuietAlong Struck grade line c

-- the lines that wait for their squares, or for their clues or signs
abbrev pub waiting_for : Bool → Waiting → ℕ
waiting_for true waiting = waiting.squares
waiting_for false waiting = waiting.clues

-- none of the first lines waits
abbrev pub IsNoneWaiting : ℕ → Waiting → Type 0
IsNoneWaiting count waiting = (what : Bool) → HasNoneBelow count (waiting_for what waiting)

-- the line, one of the first, no longer waits for its squares or for its clues; the other set is as before
pub record IsLook (count : ℕ) (old new : Waiting) (what : Bool) (line : ℕ) : Type 0 where
  pub taken : IsTaken count (waiting_for what old) (waiting_for what new) line
  pub other : waiting_for (not what) new ≡ waiting_for (not what) old

-- the candidates are quiet along each line that isn't in the set
abbrev pub AreQuietBut : (ℕ → CandidatesValue → Type 0) → ℕ → CandidatesValue → Type 0
AreQuietBut Quiet set c = (line : ℕ) → line < 2 * c.size → has_number set line ≡ false → Quiet line c

-- the candidates are quiet along each line that doesn't wait, for squares as for clues and signs
abbrev pub AreWaiting : Striking → Grade → Waiting → CandidatesValue → Type 0
AreWaiting Struck grade waiting c = (what : Bool) → AreQuietBut (IsQuietOn Struck grade what) (waiting_for what waiting) c

-- a line that isn't in the second set wasn't in the first, and nothing of its squares went
abbrev pub AreMore : ℕ → ℕ → CandidatesValue → CandidatesValue → Type 0
AreMore before after old new =
    (line : ℕ) → line < 2 * old.size → has_number after line ≡ false
    → (has_number before line ≡ false) × StaysOn line old new

-- Along which line a clue or a sign looks, in every game; along which lines they strike nothing that is left; and what
-- goes from the squares of a line.
use Rattle.std.specs.Prelude.{◌≡◌, ◌≢◌, ℕ, ◌+◌, ◌*◌, ◌<◌, ◌⊎◌, true, false, length}
use Rattle.number_sets.specs.Sets.{has_number}
use Rattle.latin_board.specs.Lines.{line_cell}
use Rattle.trail_solver.specs.Pairs.{IsPair}
use Rattle.trail_solver.specs.Candidates.{CandidatesValue, may_be}
use Rattle.line_steps.specs.Left.{IsLeft}
use Rattle.line_steps.specs.Views.{view_line}
use Rattle.line_steps.specs.Grades.{has_reason}
use Rattle.line_steps.specs.declared.grade.Grade.{Grade}
use Rattle.line_steps.specs.declared.reason.Reason.{Reason}
use Rattle.line_steps.specs.declared.reason.Reason.TheVariants.{Given, Peer, Place, Bound, Stand, Clue, Sign, Set}
use Rattle.line_steps.specs.Reasons.{Striking}

-- the square is one of the line's
abbrev pub IsOn : ℕ → ℕ → ℕ → Type 0
IsOn w line cell = (k : ℕ) × (k < w) × (cell ≡ line_cell w line k)

-- the second square follows the first one on the line
abbrev pub AreNextOn : ℕ → ℕ → ℕ → ℕ → Type 0
AreNextOn w line a b = (k : ℕ) × (k + 1 < w) × (line_cell w line k ≡ a) × (line_cell w line (k + 1) ≡ b)

-- the reason looks along the line, and strikes in the square: a clue in all squares of the line of its place, and a
-- sign between neighbours of the line in the second of them
abbrev pub LooksAlong : ℕ → ℕ → Reason → ℕ → Type 0
LooksAlong w line (Given at) cell = ⊥
LooksAlong w line (Peer by) cell = ⊥
LooksAlong w line (Place at index other) cell = ⊥
LooksAlong w line (Bound place) cell = (place < 4 * w) × (view_line w place ≡ line) × IsOn w line cell
LooksAlong w line (Stand place) cell = (place < 4 * w) × (view_line w place ≡ line) × IsOn w line cell
LooksAlong w line (Clue place) cell = (place < 4 * w) × (view_line w place ≡ line) × IsOn w line cell
LooksAlong w line (Sign from to) cell = (to ≡ cell) × (AreNextOn w line from to ⊎ AreNextOn w line to from)
LooksAlong w line (Set at squares values) cell = ⊥

-- a clue or a sign looks along some line of a grid of this width
abbrev pub StandsAlong : ℕ → Reason → ℕ → Type 0
StandsAlong w reason cell = (line : ℕ) × (line < 2 * w) × LooksAlong w line reason cell

-- no clue and no sign along the line strikes anything that is left, as the grade looks at them
abbrev pub IsQuietAlong : Striking → Grade → ℕ → CandidatesValue → Type 0
IsQuietAlong Struck grade line c =
    (reason : Reason) (cell value : ℕ) → has_reason grade reason ≡ true → LooksAlong c.size line reason cell
    → IsPair c.size cell value
    → Struck c reason cell value → may_be c cell value ≡ false

-- all that was left of the line's squares is left
abbrev pub StaysOn : ℕ → CandidatesValue → CandidatesValue → Type 0
StaysOn line old new =
    (k v : ℕ) → k < old.size → IsLeft old (line_cell old.size line k) v → IsLeft new (line_cell old.size line k) v

-- candidates may have gone from the squares at these places of the line, and from no others; if there is such
-- a place, some have gone
pub record LosesAt (line places : ℕ) (old new : CandidatesValue) : Type 0 where
  pub stays : (cell v : ℕ) → IsLeft old cell v
      → ((k : ℕ) → k < old.size → has_number places k ≡ true → cell ≢ line_cell old.size line k) → IsLeft new cell v
  pub went : (k : ℕ) → has_number places k ≡ true → length old.trail < length new.trail

-- The lines of squares that a clue allows, by what may stand in each square.
use Rattle.std.specs.Prelude.{◌≡◌, ◌≢◌, ℕ, ◌<◌, List, length, slice_index}
use Rattle.tower_lines.specs.TowersSeen.{seen}
use Rattle.trail_solver.specs.Pairs.{IsPair}
use Rattle.trail_solver.specs.Candidates.{CandidatesValue}
use Rattle.line_steps.specs.Views.{view_cell}
use Rattle.line_steps.specs.Left.{HasNoOther}

-- anything may stand in each square
abbrev pub Anything : ℕ → ℕ → Type 0
Anything cell value = Unit {0}

-- where one value alone is left of a square, only that may stand there; where several are left, any value may
abbrev pub Standing : CandidatesValue → ℕ → ℕ → Type 0
Standing c cell value = (alone : ℕ) → HasNoOther c cell alone → value ≡ alone

-- the line has in each square from the place a value of the size that may stand there, none twice, and shows the clue's
-- towers
pub record IsFillingFrom (w : ℕ) (May : ℕ → ℕ → Type 0) (place clue : ℕ) (line : List ℕ) : Type 0 where
  pub whole : length line ≡ w
  pub pairs : (k : ℕ) → k < w → IsPair w (view_cell w place k) (slice_index line k)
  pub may : (k : ℕ) → k < w → May (view_cell w place k) (slice_index line k)
  pub apart : (i j : ℕ) → i < j → j < w → slice_index line i ≢ slice_index line j
  pub shown : seen line ≡ clue

-- the square is one of those from the place, and no line that shows the clue's towers has the value there
pub record IsUnfilled (w : ℕ) (May : ℕ → ℕ → Type 0) (place clue cell value : ℕ) : Type 0 where
  pub index : ℕ
  pub inside : index < w
  pub here : view_cell w place index ≡ cell
  pub none : (line : List ℕ) → IsFillingFrom w May place clue line → slice_index line index ≢ value

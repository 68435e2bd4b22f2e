-- The counts of towers that are shown with a value in a square, by what a reason knows of its clue's line.
use Rattle.std.specs.Prelude.{◌≡◌, ◌≢◌, ◌↔◌, ℕ, ◌*◌, ◌<◌, nat_lt, Bool, true, false, List, slice_index, Option, Some, None}
use Rattle.number_sets.specs.Sets.{has_number}
use Rattle.line_steps.specs.Views.{view_cell}
use Rattle.trail_solver.specs.Candidates.{CandidatesValue}
use Rattle.line_steps.specs.Left.{IsLeft}
use Rattle.towers_game.specs.Fillings.{Anything, Standing, IsFillingFrom}
use Rattle.towers_game.specs.Rows.{AreMaySets}
use Rattle.line_steps.specs.declared.reason.Reason.{Reason}
use Rattle.line_steps.specs.declared.reason.Reason.TheVariants.{Given, Peer, Place, Bound, Stand, Clue, Sign, Set}

-- some line from the place, by what may stand in its squares, has the value in the square and shows so many towers
pub record CanShow (w : ℕ) (May : ℕ → ℕ → Type 0) (place cell value count : ℕ) : Type 0 where
  pub edge : place < 4 * w
  pub index : ℕ
  pub inside : index < w
  pub here : view_cell w place index ≡ cell
  pub line : List ℕ
  pub filling : IsFillingFrom w May place count line
  pub there : slice_index line index ≡ value

-- some line from the reason's clue, by what the reason knows of it, has the value there and shows that count
abbrev pub IsShownBy : CandidatesValue → Reason → ℕ → ℕ → ℕ → Type 0
IsShownBy c (Given at) cell value count = ⊥
IsShownBy c (Peer by) cell value count = ⊥
IsShownBy c (Place line index other) cell value count = ⊥
IsShownBy c (Bound place) cell value count = CanShow c.size Anything place cell value count
IsShownBy c (Stand place) cell value count = CanShow c.size (Standing c) place cell value count
IsShownBy c (Clue place) cell value count = CanShow c.size (IsLeft c) place cell value count
IsShownBy c (Sign from to) cell value count = ⊥
IsShownBy c (Set line squares values) cell value count = ⊥

-- the reason looks from one of the edge's places
abbrev pub is_at_clue : ℕ → Reason → Bool
is_at_clue w (Given at) = false
is_at_clue w (Peer by) = false
is_at_clue w (Place line index other) = false
is_at_clue w (Bound place) = nat_lt place (4 * w)
is_at_clue w (Stand place) = nat_lt place (4 * w)
is_at_clue w (Clue place) = nat_lt place (4 * w)
is_at_clue w (Sign from to) = false
is_at_clue w (Set line squares values) = false

-- for each of these values of a square, at its own index, the counts that are shown with it there
abbrev pub AreShown : CandidatesValue → Reason → ℕ → ℕ → List ℕ → Type 0
AreShown c reason cell values shows =
    (v count : ℕ) → has_number values v ≡ true
    → (has_number (slice_index shows v) count ≡ true) ↔ IsShownBy c reason cell v count

-- the squares from a place at the edge of a size, with what may stand in each
pub record ClueRow : Type 0 where
  pub size : ℕ
  pub place : ℕ
  pub row : List ℕ

-- the same line with these numbers in the square at the index
pub record IsRowWith (row : ClueRow) (index numbers : ℕ) (with : ClueRow) : Type 0 where
  pub size : with.size ≡ row.size
  pub from : with.place ≡ row.place
  pub here : slice_index with.row index ≡ numbers
  pub others : (k : ℕ) → k ≢ index → slice_index with.row k ≡ slice_index row.row k

-- the row is of the squares from the place, by what may stand in them
pub record IsRowFrom (w : ℕ) (May : ℕ → ℕ → Type 0) (place : ℕ) (row : ClueRow) : Type 0 where
  pub edge : place < 4 * w
  pub size : row.size ≡ w
  pub from : row.place ≡ place
  pub sets : AreMaySets w May place w row.row

-- the row is of the squares from the reason's clue, by what the reason knows of them
abbrev pub IsRowOf : CandidatesValue → Reason → ClueRow → Type 0
IsRowOf c (Given at) row = ⊥
IsRowOf c (Peer by) row = ⊥
IsRowOf c (Place line index other) row = ⊥
IsRowOf c (Bound place) row = IsRowFrom c.size Anything place row
IsRowOf c (Stand place) row = IsRowFrom c.size (Standing c) place row
IsRowOf c (Clue place) row = IsRowFrom c.size (IsLeft c) place row
IsRowOf c (Sign from to) row = ⊥
IsRowOf c (Set line squares values) row = ⊥

-- the line of the reason's clue, if it looks from one of the edge's places
abbrev pub IsLineOf : CandidatesValue → Reason → Option ClueRow → Type 0
IsLineOf c reason None = is_at_clue c.size reason ≡ false
IsLineOf c reason (Some row) = (is_at_clue c.size reason ≡ true) × IsRowOf c reason row

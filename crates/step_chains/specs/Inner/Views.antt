-- The numbers that aren't in view of a square.
use Rattle.std.specs.Prelude.{◌≡◌, ◌≢◌, ◌↔◌, ℕ, ◌⊎◌, true, false}
use Rattle.number_sets.specs.Sets.{has_number, no_numbers}
use Rattle.latin_board.specs.Boards.{BoardValue, grid_of, marks_at}
use Rattle.latin_board.specs.Squares.{GridValue, number_at}
use Rattle.latin_board.specs.Lines.{ArePeers}
use Rattle.trail_solver.specs.Pairs.{IsPair}
use Rattle.trail_solver.specs.Candidates.{CandidatesValue, may_be}
use Rattle.line_steps.specs.Left.{IsFewer}

-- the square has another number than the value; or it is empty, and the value stands in its row or column
abbrev pub IsUnseen : GridValue → ℕ → ℕ → Type 0
IsUnseen g cell value =
    ((number_at g cell ≢ 0) × (value ≢ number_at g cell))
    ⊎ ((number_at g cell ≡ 0) × ((peer : ℕ) × ArePeers g.size peer cell × (number_at g peer ≡ value)))

-- the set has just these of the numbers of the size
abbrev pub IsUnseenSet : GridValue → ℕ → ℕ → Type 0
IsUnseenSet g cell set = (value : ℕ) → IsPair g.size cell value → (has_number set value ≡ true) ↔ IsUnseen g cell value

-- the square is empty and has pencil marks, of which the value is none
pub record IsUnmarked (b : BoardValue) (cell value : ℕ) : Type 0 where
  pub empty : number_at (grid_of b) cell ≡ 0
  pub some : marks_at b cell ≢ no_numbers
  pub lacks : has_number (marks_at b cell) value ≡ false

-- the set has just these of the numbers of the size
abbrev pub IsUnmarkedSet : BoardValue → ℕ → ℕ → Type 0
IsUnmarkedSet b cell set = (value : ℕ) → IsPair b.size cell value → (has_number set value ≡ true) ↔ IsUnmarked b cell value

-- the value isn't in view of the square, or isn't marked there
abbrev pub IsHidden : BoardValue → ℕ → ℕ → Type 0
IsHidden b cell value = IsUnseen (grid_of b) cell value ⊎ IsUnmarked b cell value

-- the set has just these of the numbers of the size
abbrev pub IsHiddenSet : BoardValue → ℕ → ℕ → Type 0
IsHiddenSet b cell set = (value : ℕ) → IsPair b.size cell value → (has_number set value ≡ true) ↔ IsHidden b cell value

-- a grid, and the candidates from which its hint is to begin
pub record SeenValue : Type 0 where
  pub grid : GridValue
  pub start : CandidatesValue

-- a grid and the candidates
abbrev pub seen : GridValue → CandidatesValue → SeenValue
seen g c = record { grid = g; start = c }

-- the candidates leave just what is left at the start, of the grid's size
pub record IsSeen (g : SeenValue) (c : CandidatesValue) : Type 0 where
  pub size : c.size ≡ g.grid.size
  pub among : IsFewer g.start c
  pub all : IsFewer c g.start

-- the value isn't left of the square
abbrev pub IsGone : CandidatesValue → ℕ → ℕ → Type 0
IsGone c cell value = may_be c cell value ≡ false

-- the set has just these of the numbers of the size
abbrev pub IsGoneSet : CandidatesValue → ℕ → ℕ → Type 0
IsGoneSet c cell set = (value : ℕ) → IsPair c.size cell value → (has_number set value ≡ true) ↔ IsGone c cell value

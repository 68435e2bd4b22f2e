-- The fillings of a line, whose squares have sets of numbers as candidates.
use Rattle.std.specs.Prelude.{◌≡◌, ◌≢◌, ℕ, ◌<◌, ◌≤◌, true, List, length, slice_index}
use Rattle.number_sets.specs.Sets.{has_number}
use Rattle.tower_lines.specs.TowersSeen.{seen}

-- a start: values for a line's first squares, each from 1 to its length and a candidate there, none twice
pub record IsStart (sets line : List ℕ) : Type 0 where
  pub room : length line ≤ length sets
  pub values : (j : ℕ) → j < length line → (1 ≤ slice_index line j) × (slice_index line j ≤ length sets)
  pub candidates : (j : ℕ) → j < length line → has_number (slice_index sets j) (slice_index line j) ≡ true
  pub apart : (i j : ℕ) → i < j → j < length line → slice_index line i ≢ slice_index line j

-- a filling: a start with a value for each square of the line that shows as many towers as the clue says
pub record IsFilling (sets : List ℕ) (clue : ℕ) (line : List ℕ) : Type 0 where
  pub start : IsStart sets line
  pub whole : length line ≡ length sets
  pub shown : seen line ≡ clue

-- some filling has the value at the place
pub record IsSupported (sets : List ℕ) (clue place value : ℕ) : Type 0 where
  pub line : List ℕ
  pub filling : IsFilling sets clue line
  pub inside : place < length sets
  pub here : slice_index line place ≡ value

-- The lines of a square grid as one family, and which squares share one.
use Rattle.std.specs.Prelude.{◌≡◌, ◌≢◌, ℕ, ◌+◌, ◌-◌, ◌*◌, ◌/◌, ◌%◌, ◌<◌, ◌⊎◌, List, map, nat_lt, if◌then◌else◌}
use Rattle.std.specs.List.{range_with_len}
use Rattle.latin_board.specs.Squares.{GridValue, number_at}

-- the square at place k of a line: the rows from the top are the lines below w, the columns from the left those from w
-- on
abbrev pub line_cell : ℕ → ℕ → ℕ → ℕ
line_cell w line k = if nat_lt line w then line * w + k else k * w + (line - w)

-- the numbers along a line
abbrev pub line_of : GridValue → ℕ → List ℕ
line_of g line = map (λ k. number_at g (line_cell g.size line k)) (range_with_len 0 g.size)

-- two squares that share a row or a column
pub record ArePeers (w a b : ℕ) : Type 0 where
  pub first : a < w * w
  pub second : b < w * w
  pub apart : a ≢ b
  pub shared : (a / w ≡ b / w) ⊎ (a % w ≡ b % w)

-- both squares stand in this line, at these two places
pub record IsOnLine (w a b line i j : ℕ) : Type 0 where
  pub line_is : line < 2 * w
  pub first : i < w
  pub second : j < w
  pub apart : i ≢ j
  pub first_cell : line_cell w line i ≡ a
  pub second_cell : line_cell w line j ≡ b

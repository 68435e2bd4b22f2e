-- The squares from an edge place or of a line, as the first of them and the way from each to the next.
use Rattle.std.specs.Prelude.{◌≡◌, ℕ, ◌+◌, ◌*◌, ◌<◌, ◌≤◌}
use Rattle.latin_board.specs.Lines.{line_cell}
use Rattle.line_steps.specs.Views.{view_cell}

-- from a place on, each next square's number is the one before it with ahead added and back taken away
pub record LeadAlong (w place first ahead back : ℕ) : Type 0 where
  pub width : w ≤ 9
  pub place_is : place < 4 * w
  pub short : back ≤ w
  pub each : (k : ℕ) → k < w → first + k * ahead ≡ view_cell w place k + k * back

-- along the line, each next square's number is the one before it with step added
pub record LeadOn (w line first step : ℕ) : Type 0 where
  pub width : w ≤ 9
  pub line_is : line < 2 * w
  pub each : (k : ℕ) → k < w → first + k * step ≡ line_cell w line k

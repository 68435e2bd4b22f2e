-- Full grids, whose numbers can be looked for among candidates.
use Rattle.std.specs.Prelude.{◌≡◌, ℕ, ◌*◌, ◌<◌}
use Rattle.latin_board.specs.Squares.{GridValue, number_at}
use Rattle.trail_solver.specs.Pairs.{IsPair}
use Rattle.trail_solver.specs.declared.answer.Answer.{Answer}
use Rattle.trail_solver.specs.declared.answer.Answer.TheVariants.{None, One, Several}

-- the grid has that width, and a number of it in each square
pub record IsFullGrid (w : ℕ) (g : GridValue) : Type 0 where
  pub size : g.size ≡ w
  pub each : (cell : ℕ) → cell < w * w → IsPair w cell (number_at g cell)

-- the only solution, if there is just one, is such a grid
abbrev pub IsFullAnswer : ℕ → Answer → Type 0
IsFullAnswer w None = Unit {0}
IsFullAnswer w (One g) = IsFullGrid w g
IsFullAnswer w (Several g h) = Unit {0}

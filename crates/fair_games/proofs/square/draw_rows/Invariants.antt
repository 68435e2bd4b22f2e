use Rattle.std.proofs.Common.{◌≡◌}
use Rattle.fair_games.specs.Squares.{drawn_rows}
use Rattle.fair_games.proofs.square.draw_rows.Given as goal

abbrev pub invariant-loop-row : goal.invariant-loop-row
invariant-loop-row g l = (l.grid.size ≡ l.fn.size) × ((l.grid, g.R.Rng.stream l.rng) ≡ drawn_rows l.fn.size l.row (g.R.Rng.stream l.fn.rng))

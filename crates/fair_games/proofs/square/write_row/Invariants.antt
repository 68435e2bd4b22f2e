use Rattle.std.proofs.Common.{◌≡◌}
use Rattle.fair_games.specs.Squares.{with_row}
use Rattle.fair_games.proofs.square.write_row.Given as goal

abbrev pub invariant-loop-k : goal.invariant-loop-k
invariant-loop-k l = (l.grid.size ≡ l.fn.grid.size) × (l.grid ≡ with_row l.fn.grid l.row l.columns l.chosen l.k)

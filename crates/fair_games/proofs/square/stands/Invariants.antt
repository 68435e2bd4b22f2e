use Rattle.std.proofs.Common.{◌≡◌}
use Rattle.fair_games.specs.Squares.{stands_in}
use Rattle.fair_games.proofs.square.stands.Given as goal

abbrev pub invariant-loop-row : goal.invariant-loop-row
invariant-loop-row l = l.found ≡ stands_in l.grid l.column l.number l.row

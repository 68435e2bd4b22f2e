use Rattle.towers_game.proofs.SettledLines.{IsSettled}
use Rattle.towers_game.proofs.towers.row_fillings.shows_alone.Given as goal

abbrev pub invariant-loop-k : goal.invariant-loop-k
invariant-loop-k l = IsSettled l.sets l.k l.used l.line

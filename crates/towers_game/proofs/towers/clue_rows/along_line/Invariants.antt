use Rattle.towers_game.specs.Inner.RowSets.{IsAlong}
use Rattle.towers_game.proofs.towers.clue_rows.along_line.Given as goal

abbrev pub invariant-loop-k : goal.invariant-loop-k
invariant-loop-k l = IsAlong l.width l.place l.row l.k l.along

use Rattle.towers_game.specs.Inner.RowSets.{AreStandingSets}
use Rattle.towers_game.proofs.towers.clue_rows.standing_row.Given as goal

abbrev pub invariant-loop-k : goal.invariant-loop-k
invariant-loop-k l = AreStandingSets l.all l.left l.k l.row

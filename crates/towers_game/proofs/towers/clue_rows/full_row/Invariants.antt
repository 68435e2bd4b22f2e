use Rattle.towers_game.specs.Inner.RowSets.{AreFull}
use Rattle.towers_game.proofs.towers.clue_rows.full_row.Given as goal

abbrev pub invariant-loop-k : goal.invariant-loop-k
invariant-loop-k l = AreFull l.all l.k l.row

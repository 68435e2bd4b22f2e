use Rattle.towers_game.specs.Inner.RowSets.{AreMissing}
use Rattle.towers_game.proofs.towers.clue_rows.missing_row.Given as goal

abbrev pub invariant-loop-k : goal.invariant-loop-k
invariant-loop-k l = AreMissing l.width l.kept l.k l.row

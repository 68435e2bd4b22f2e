use Rattle.line_steps.specs.Left.{IsLeft}
use Rattle.towers_game.specs.Rows.{AreMaySets}
use Rattle.towers_game.proofs.towers.clue_rows.left_row.Given as goal

abbrev pub invariant-loop-k : goal.invariant-loop-k
invariant-loop-k l = AreMaySets l.candidates.size (IsLeft l.candidates) l.place l.k l.row

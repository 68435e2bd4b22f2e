use Rattle.latin_board.proofs.FoundNumbers.{AreFound}
use Rattle.latin_board.proofs.grid.Grid.has_each_once.Given as goal

abbrev pub invariant-loop-place : goal.invariant-loop-place
invariant-loop-place l = AreFound l.self l.line l.place l.found

use Rattle.latin_board.proofs.Padding.{KeepsMarks-empty}
use Rattle.latin_board.proofs.board.Board.start.Goals as goal

pub invariant_of-result : goal.invariant_of-result
invariant_of-result c = rw (c.empty_marks.ensures, c.empty.ensures) (KeepsMarks-empty c.args.grid.now.size)

use Rattle.std.proofs.Common.{◌*◌, ◌<◌, arith}
use Rattle.play_midend.proofs.BoardFilling.{marks_more}
use Rattle.play_midend.proofs.step.with_all_marks.Goals as goal

pub loop-cell-preserved : goal.loop-cell-preserved
loop-cell-preserved c =
    let inside : c.loop-cell.cell < c.args.board.now.size * c.args.board.now.size = grind arith in
    marks_more c.args.board.now c.loop-cell.next _ c.loop-cell.cell _ c.loop-cell.invariant inside c.marks_of_all-marks.ensures.value (rw (c.digit-n.ensures.value, c.completed.ensures, c.cheated.ensures) at c.write_square.ensures)

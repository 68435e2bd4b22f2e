use Rattle.std.proofs.Common.{[], arith}
use Rattle.line_replies.specs.BoardTexts.{marks_line}
use Rattle.line_replies.proofs.Ranges.{flat_map_onto}
use Rattle.line_replies.proofs.view.pencil_marks.marks_of.Goals as goal

pub loop-cell-preserved : goal.loop-cell-preserved
loop-cell-preserved c =
    flat_map_onto (marks_line c.args.board.now) [] _ _ 0 c.loop-cell.cell _ c.loop-cell.cell (omega arith) (omega arith)
    c.loop-cell.invariant c.in_ok-push_marks_line.ensures

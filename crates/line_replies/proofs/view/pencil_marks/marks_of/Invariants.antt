use Rattle.std.proofs.Common.{◌≡◌}
use Rattle.std.specs.List.{range_with_len, flat_map}
use Rattle.line_replies.specs.BoardTexts.{marks_line}
use Rattle.line_replies.proofs.view.pencil_marks.marks_of.Given as goal

abbrev pub invariant-loop-cell : goal.invariant-loop-cell
invariant-loop-cell l = l.text.items ≡ flat_map (marks_line l.board) (range_with_len 0 l.cell)

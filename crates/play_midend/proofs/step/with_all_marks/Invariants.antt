use Rattle.play_midend.proofs.BoardFilling.{HasMarks}
use Rattle.play_midend.proofs.step.with_all_marks.Given as goal

abbrev pub invariant-loop-cell : goal.invariant-loop-cell
invariant-loop-cell l = HasMarks l.board l.next l.cell

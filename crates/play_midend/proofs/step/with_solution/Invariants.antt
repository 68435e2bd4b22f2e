use Rattle.play_midend.proofs.BoardFilling.{HasNumbers}
use Rattle.play_midend.proofs.step.with_solution.Given as goal

abbrev pub invariant-loop-cell : goal.invariant-loop-cell
invariant-loop-cell l = HasNumbers l.board l.next l.grid l.cell

use Rattle.play_midend.proofs.BoardFilling.{HasGivens}
use Rattle.play_midend.proofs.step.givens.Given as goal

abbrev pub invariant-loop-cell : goal.invariant-loop-cell
invariant-loop-cell g l = HasGivens (g.P.Rules.puzzle l.puzzle) l.grid l.cell

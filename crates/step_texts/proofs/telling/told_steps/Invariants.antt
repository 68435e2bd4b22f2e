use Rattle.line_steps.specs.Reasons.{StruckBy}
use Rattle.std.proofs.Common.{length}
use Rattle.step_texts.proofs.LooksTold.{GoesOn}
use Rattle.step_texts.proofs.telling.told_steps.Given as goal

abbrev pub invariant-loop-first : goal.invariant-loop-first
invariant-loop-first g l = GoesOn (StruckBy g.P.Rules.puzzle g.P.Steps.own l.p) (g.P.Rules.puzzle l.p).size l.view l.candidates l.steps l.rest l.told.items

abbrev pub decreases-loop-first : goal.decreases-loop-first
decreases-loop-first g l = length l.rest

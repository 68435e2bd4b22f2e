use Rattle.line_steps.specs.Reasons.{StruckBy}
use Rattle.line_steps.proofs.ReasonsAlong.{GoesOn}
use Rattle.line_steps.proofs.steps.clue_passes.strike_by_reasons.Given as goal

abbrev pub invariant-loop-n : goal.invariant-loop-n
invariant-loop-n g l = GoesOn (StruckBy g.P.Rules.puzzle g.P.Steps.own l.p) l.grade l.line l.n l.changed l.fn.candidates l.candidates

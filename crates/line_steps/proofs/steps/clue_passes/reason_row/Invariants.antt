use Rattle.line_steps.specs.Reasons.{StruckBy}
use Rattle.line_steps.specs.Inner.ReasonsAlong.{AreStruckOn}
use Rattle.line_steps.proofs.steps.clue_passes.reason_row.Given as goal

abbrev pub invariant-loop-k : goal.invariant-loop-k
invariant-loop-k g l = AreStruckOn l.candidates.size (StruckBy g.P.Rules.puzzle g.P.Steps.own l.p l.candidates l.reason) l.line l.k l.row

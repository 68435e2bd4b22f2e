use Rattle.line_steps.specs.Reasons.{StruckBy}
use Rattle.std.proofs.Common.{◌-◌, length}
use Rattle.line_steps.specs.Inner.LineLooks.{AreWaiting}
use Rattle.line_steps.proofs.Rounds.{IsOnTheWay}
use Rattle.line_steps.proofs.lines.settling.settle_lines.Given as goal

abbrev pub invariant-rounds : goal.invariant-rounds
invariant-rounds g l =
    IsOnTheWay (g.P.LinePass.puzzle l.p) (g.P.LinePass.own l.p) (g.P.LinePass.grade l.p) l.fn.candidates l.candidates
    × AreWaiting (StruckBy g.P.LinePass.puzzle g.P.LinePass.own l.p) (g.P.LinePass.grade l.p) l.waiting l.candidates

abbrev pub decreases-rounds : goal.decreases-rounds
decreases-rounds g l = 730 - length l.candidates.trail

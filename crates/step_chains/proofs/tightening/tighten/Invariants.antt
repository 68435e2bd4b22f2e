use Rattle.line_steps.specs.Reasons.{StruckBy}
use Rattle.std.proofs.Common.{◌≡◌}
use Rattle.step_chains.specs.Inner.Aims.{aim_goal}
use Rattle.step_chains.specs.Inner.Tight.{IsDoneTo}
use Rattle.step_chains.proofs.tightening.tighten.Given as goal

abbrev pub invariant-loop-index : goal.invariant-loop-index
invariant-loop-index g l = (l.candidates ≡ l.fn.candidates)
    × IsDoneTo (StruckBy g.P.Rules.puzzle g.P.Steps.own l.p) l.grade l.fn.candidates l.index l.fn.steps.items l.steps.items (aim_goal l.aim)

abbrev pub decreases-loop-index : goal.decreases-loop-index
decreases-loop-index g l = l.index

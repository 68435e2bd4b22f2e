use Rattle.line_steps.specs.Reasons.{StruckBy}
use Rattle.std.proofs.Common.{◌-◌, ◌*◌, length}
use Rattle.step_chains.specs.ChainValues.{steps_of}
use Rattle.step_chains.specs.Inner.Replays.{AreTimely, Leads}
use Rattle.step_chains.proofs.next_steps.all_steps.Given as goal

abbrev pub invariant-loop-step : goal.invariant-loop-step
invariant-loop-step g l = Leads (StruckBy g.P.Rules.puzzle g.P.Steps.own l.p) l.grade l.fn.candidates (steps_of l.steps.items) l.candidates
    × AreTimely l.fn.candidates (steps_of l.steps.items)

abbrev pub decreases-loop-step : goal.decreases-loop-step
decreases-loop-step g l = l.candidates.size * l.candidates.size * l.candidates.size - length l.candidates.trail

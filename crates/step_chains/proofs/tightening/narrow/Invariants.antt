use Rattle.line_steps.specs.Reasons.{StruckBy}
use Rattle.std.proofs.Common.{◌≡◌, ◌+◌, length}
use Rattle.named_steps.specs.Chains.{Shows}
use Rattle.step_chains.specs.ChainValues.{steps_of}
use Rattle.step_chains.specs.Inner.Aims.{aim_goal}
use Rattle.step_chains.specs.Inner.Replays.{AreTimely}
use Rattle.step_chains.specs.Inner.Tight.{IsDoneFrom, IsNarrowedBelow}
use Rattle.step_chains.proofs.tightening.narrow.Given as goal

abbrev pub invariant-loop-value : goal.invariant-loop-value
invariant-loop-value g l = (l.candidates ≡ l.fn.candidates) × (length l.steps.items ≡ length l.fn.steps.items)
    × (IsDoneFrom (StruckBy g.P.Rules.puzzle g.P.Steps.own l.p) l.grade l.fn.candidates (l.index + 1) l.fn.steps.items (aim_goal l.aim)
    → Shows (StruckBy g.P.Rules.puzzle g.P.Steps.own l.p) l.grade l.fn.candidates (steps_of l.steps.items) (aim_goal l.aim)
    × IsNarrowedBelow (StruckBy g.P.Rules.puzzle g.P.Steps.own l.p) l.grade l.fn.candidates l.index l.value l.steps.items (aim_goal l.aim)
    × (AreTimely l.fn.candidates (steps_of l.fn.steps.items) → AreTimely l.fn.candidates (steps_of l.steps.items)))

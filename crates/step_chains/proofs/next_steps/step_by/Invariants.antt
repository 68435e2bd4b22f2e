use Rattle.line_steps.specs.Reasons.{StruckBy}
use Rattle.std.proofs.Common.{ℕ, ◌<◌}
use Rattle.step_chains.specs.Inner.Quiet.{IsIdleIn}
use Rattle.step_chains.proofs.next_steps.step_by.Given as goal

abbrev pub invariant-loop-cell : goal.invariant-loop-cell
invariant-loop-cell g l = (j : ℕ) → j < l.cell → IsIdleIn (StruckBy g.P.Rules.puzzle g.P.Steps.own l.p) l.grade l.candidates l.reason j

use Rattle.line_steps.specs.Reasons.{StruckBy}
use Rattle.std.proofs.Common.{ℕ, ◌<◌}
use Rattle.step_chains.specs.Inner.Quiet.{IsIdleAt}
use Rattle.step_chains.proofs.next_steps.step_in_part.Given as goal

abbrev pub invariant-loop-index : goal.invariant-loop-index
invariant-loop-index g l = (j : ℕ) → j < l.index → IsIdleAt (StruckBy g.P.Rules.puzzle g.P.Steps.own l.p) l.grade l.candidates l.part j

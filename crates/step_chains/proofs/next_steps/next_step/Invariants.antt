use Rattle.line_steps.specs.Reasons.{StruckBy}
use Rattle.std.proofs.Common.{ℕ, ◌<◌, get_or}
use Rattle.step_chains.specs.Inner.Quiet.{AreIdleIn}
use Rattle.step_chains.specs.declared.reasons.TheConstants.{PARTS}
use Rattle.step_chains.specs.declared.reasons.Part.TheVariants.{Squares}
use Rattle.step_chains.proofs.next_steps.next_step.Given as goal

abbrev pub invariant-loop-part : goal.invariant-loop-part
invariant-loop-part g l = (j : ℕ) → j < l.part → AreIdleIn (StruckBy g.P.Rules.puzzle g.P.Steps.own l.p) l.grade l.candidates (get_or PARTS j Squares)

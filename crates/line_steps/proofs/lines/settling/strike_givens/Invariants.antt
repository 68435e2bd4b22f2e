use Rattle.line_steps.specs.Reasons.{StruckBy}
use Rattle.std.proofs.Common.{ℕ, ◌<◌}
use Rattle.line_steps.specs.Chains.{LeadsTo}
use Rattle.line_steps.specs.Settled.{IsGivenQuiet}
use Rattle.line_steps.specs.declared.grade.Grade.TheVariants.{Latin}
use Rattle.line_steps.proofs.lines.settling.strike_givens.Given as goal

abbrev pub invariant-loop-cell : goal.invariant-loop-cell
invariant-loop-cell g l =
    LeadsTo (StruckBy g.P.LinePass.puzzle g.P.LinePass.own l.p) Latin l.fn.candidates l.candidates
    × ((j : ℕ) → j < l.cell → IsGivenQuiet (g.P.LinePass.puzzle l.p) j l.candidates)

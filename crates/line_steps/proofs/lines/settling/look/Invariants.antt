use Rattle.line_steps.specs.Reasons.{StruckBy}
use Rattle.std.proofs.Common.{◌+◌, ◌-◌, ◌*◌, ◌%◌, ◌^◌, ◌<◌, length}
use Rattle.line_steps.specs.Chains.{LeadsTo}
use Rattle.line_steps.specs.Inner.LineLooks.{AreWaiting}
use Rattle.line_steps.proofs.lines.settling.look.Given as goal

abbrev pub invariant-looks : goal.invariant-looks
invariant-looks g l = record {
  leads : LeadsTo (StruckBy g.P.LinePass.puzzle g.P.LinePass.own l.p) (g.P.LinePass.grade l.p) l.initial.candidates l.candidates;
  waits : AreWaiting (StruckBy g.P.LinePass.puzzle g.P.LinePass.own l.p) (g.P.LinePass.grade l.p) l.initial.waiting l.initial.candidates
      → AreWaiting (StruckBy g.P.LinePass.puzzle g.P.LinePass.own l.p) (g.P.LinePass.grade l.p) l.waiting l.candidates;
  from_squares : l.from.0 < 32;
  from_clues : l.from.1 < 32;
}

-- how much is left to do: candidates to take away, and then lines to look at
abbrev pub decreases-looks : goal.decreases-looks
decreases-looks g l = (730 - length l.candidates.trail) * 2 ^ 33 + (l.waiting.squares % 2 ^ 32 + l.waiting.clues % 2 ^ 32)

use Rattle.line_steps.specs.Reasons.{StruckBy}
use Rattle.std.proofs.Common.{◌≡◌, take}
use Rattle.step_texts.specs.Looks.{AreJoined, last_cell}
use Rattle.step_texts.proofs.looks.joined_steps.Given as goal

abbrev pub invariant-loop-at : goal.invariant-loop-at
invariant-loop-at g l =
    AreJoined (StruckBy g.P.Rules.puzzle g.P.Steps.own l.p) (g.P.Rules.puzzle l.p).size l.candidates l.first (take l.at l.steps)
    × (l.last ≡ last_cell l.first.cell (take l.at l.steps))

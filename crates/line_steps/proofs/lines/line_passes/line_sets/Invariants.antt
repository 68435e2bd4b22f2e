use Rattle.line_steps.specs.Inner.LineSets.{AreLineSets}
use Rattle.line_steps.proofs.lines.line_passes.line_sets.Given as goal

abbrev pub invariant-loop-k : goal.invariant-loop-k
invariant-loop-k l = AreLineSets l.candidates l.line l.k l.sets

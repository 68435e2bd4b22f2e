use Rattle.line_steps.specs.Inner.LineTallies.{AreTallied}
use Rattle.line_steps.proofs.lines.latin.tally_of.Given as goal

abbrev pub invariant-loop-place : goal.invariant-loop-place
invariant-loop-place l = AreTallied l.candidates l.squares.line l.place l.tally

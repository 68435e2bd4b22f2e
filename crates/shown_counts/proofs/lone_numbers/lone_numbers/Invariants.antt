use Rattle.shown_counts.specs.Inner.Lone.{AreLone}
use Rattle.shown_counts.proofs.lone_numbers.lone_numbers.Given as goal

abbrev pub invariant-loop-k : goal.invariant-loop-k
invariant-loop-k l = AreLone l.k l.row l.lone

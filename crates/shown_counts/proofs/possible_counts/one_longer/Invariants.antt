use Rattle.shown_counts.specs.Inner.Possible.{IsLongerBelow}
use Rattle.shown_counts.proofs.possible_counts.one_longer.Given as goal

abbrev pub invariant-loop-height : goal.invariant-loop-height
invariant-loop-height l = IsLongerBelow l.height l.low l.set l.starts l.lower l.longer

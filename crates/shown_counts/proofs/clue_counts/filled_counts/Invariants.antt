use Rattle.std.proofs.Common.{take}
use Rattle.shown_counts.specs.Inner.Counted.{IsFilled, AreCounts}
use Rattle.shown_counts.proofs.clue_counts.filled_counts.Given as goal

abbrev pub invariant-loop-count : goal.invariant-loop-count
invariant-loop-count l = AreCounts (IsFilled (take l.width l.row)) l.count l.counts

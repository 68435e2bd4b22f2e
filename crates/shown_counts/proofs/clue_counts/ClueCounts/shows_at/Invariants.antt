use Rattle.std.proofs.Common.{◌≡◌, length, take}
use Rattle.shown_counts.specs.Inner.Counted.{AreCountsBelow}
use Rattle.shown_counts.proofs.clue_counts.ClueCounts.shows_at.Given as goal

abbrev pub invariant-loop-value : goal.invariant-loop-value
invariant-loop-value l = (length l.shows ≡ 10) × AreCountsBelow (take l.self.size l.self.row) l.index l.values l.value l.shows

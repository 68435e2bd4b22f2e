use Rattle.std.proofs.Common.{◌≢◌, ℕ, ◌<◌}
use Rattle.line_steps.specs.Views.{view_cell}
use Rattle.shown_counts.proofs.clue_counts.ClueCounts.index_of.Given as goal

abbrev pub invariant-loop-index : goal.invariant-loop-index
invariant-loop-index l = (k : ℕ) → k < l.index → view_cell l.self.size l.self.place k ≢ l.cell

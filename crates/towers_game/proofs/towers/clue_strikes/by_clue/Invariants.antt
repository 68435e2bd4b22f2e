use Rattle.std.proofs.Common.{◌≢◌, ℕ, ◌<◌}
use Rattle.line_steps.specs.Views.{view_cell}
use Rattle.towers_game.proofs.towers.clue_strikes.by_clue.Given as goal

abbrev pub invariant-loop-k : goal.invariant-loop-k
invariant-loop-k l = (j : ℕ) → j < l.k → view_cell l.candidates.size l.place j ≢ l.cell

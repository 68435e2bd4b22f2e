use Rattle.std.proofs.Common.{◌≡◌, ℕ, ◌<◌, length, slice_index}
use Rattle.latin_board.specs.Squares.{number_at}
use Rattle.line_steps.specs.Views.{view_cell}
use Rattle.board_checks.specs.Inner.TowersLines.{CanHold}
use Rattle.board_checks.proofs.towers.line_sets.Given as goal

abbrev pub invariant-loop-k : goal.invariant-loop-k
invariant-loop-k l = record {
  room : length l.sets ≡ 9;
  each : (k : ℕ) → k < l.k → CanHold l.grid.size (number_at l.grid (view_cell l.grid.size l.place k)) (slice_index l.sets k);
}

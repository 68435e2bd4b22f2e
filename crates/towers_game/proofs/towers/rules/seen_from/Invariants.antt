use Rattle.std.proofs.Common.{zero}
use Rattle.latin_board.specs.Squares.{number_at}
use Rattle.line_steps.specs.Views.{view_cell}
use Rattle.line_steps.proofs.FilledLemmas.{IsFilledBy}
use Rattle.towers_game.proofs.towers.rules.seen_from.Given as goal

abbrev pub invariant-loop-k : goal.invariant-loop-k
invariant-loop-k l = IsFilledBy zero 9 (λ k. number_at l.grid (view_cell l.grid.size l.place k)) l.k l.line

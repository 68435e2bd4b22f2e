use Rattle.std.proofs.Common.{◌≡◌, ◌↔◌, ℕ, ◌<◌, true}
use Rattle.number_sets.specs.Sets.{has_number}
use Rattle.latin_board.specs.Squares.{number_at}
use Rattle.latin_board.specs.Lines.{line_cell}
use Rattle.step_chains.proofs.view.numbers_on.Given as goal

abbrev pub invariant-loop-k : goal.invariant-loop-k
invariant-loop-k l = (v : ℕ) → (has_number l.found v ≡ true) ↔ ((k : ℕ) × (k < l.k) × (number_at l.grid (line_cell l.grid.size l.line k) ≡ v))

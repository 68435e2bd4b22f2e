use Rattle.std.proofs.Common.{◌≡◌, ℕ, ◌<◌}
use Rattle.latin_board.specs.Squares.{number_at}
use Rattle.puzzle_gen.specs.SeededSquares.{seeded_number}
use Rattle.puzzle_gen.proofs.seeded_square.combine.Given as goal

abbrev pub invariant-loop-cell : goal.invariant-loop-cell
invariant-loop-cell l =
    (l.grid.size ≡ l.fn.size)
    × ((j : ℕ) → j < l.cell → number_at l.grid j ≡ seeded_number l.fn.size l.rows l.columns l.symbols j)

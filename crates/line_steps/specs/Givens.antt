-- Puzzles of givens alone.
use Rattle.std.specs.Prelude.{true, false}
use Rattle.latin_board.specs.Squares.{GridValue, number_at}
use Rattle.trail_solver.specs.Puzzles.{Puzzle}

-- the puzzle that asks for the numbers of a grid where it has any, and for nothing else
abbrev pub given_puzzle : GridValue → Puzzle
given_puzzle givens = record {
  size = givens.size;
  given = λ cell. number_at givens cell;
  meets = λ g. true;
  clued = λ place. false;
}

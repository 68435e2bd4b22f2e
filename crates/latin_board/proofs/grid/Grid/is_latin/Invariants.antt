use Rattle.std.proofs.Common.{◌<◌, ℕ}
use Rattle.latin_board.specs.Squares.{HasEachOnce}
use Rattle.latin_board.specs.Lines.{line_of}
use Rattle.latin_board.proofs.grid.Grid.is_latin.Given as goal

abbrev pub invariant-loop-line : goal.invariant-loop-line
invariant-loop-line l = (line : ℕ) → line < l.line → HasEachOnce l.self.size (line_of l.self line)

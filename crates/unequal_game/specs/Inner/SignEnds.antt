-- The ends of signs along a row or column.
use Rattle.std.specs.Prelude.{◌≡◌, ℕ, ◌<◌}
use Rattle.latin_board.specs.Lines.{line_cell}
use Rattle.unequal_game.specs.declared.unequal.lines.End.{End}

-- the end's square is the one at its place of the line
pub record IsEnd (w line : ℕ) (end : End) : Type 0 where
  pub inside : end.place < w
  pub here : end.cell ≡ line_cell w line end.place

-- The value that the fields of a change stand for.
use Rattle.latin_board.specs.declared.change.Content.{Content}
use Rattle.latin_board.specs.declared.change.Content.TheVariants.{Square, Whole}
use Rattle.latin_board.specs.Changes.{ChangeValue, OneSquare, WholeBoard}

-- the change that a content stands for
abbrev pub change_value : Content → ChangeValue
change_value (Square s) =
    OneSquare (record {
      cell = s.cell;
      number = s.number;
      marks = s.marks;
      completed = s.completed;
      cheated = s.cheated;
    })
change_value (Whole board) = WholeBoard board.value

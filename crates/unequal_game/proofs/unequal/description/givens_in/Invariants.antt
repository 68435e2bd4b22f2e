use Rattle.std.proofs.Common.{◌≡◌, ◌*◌, length, true, take, map, unwrap_or}
use Rattle.std.specs.List.{list_all}
use Rattle.unequal_game.specs.Inner.UnequalPieces.{texts_of}
use Rattle.unequal_game.specs.UnequalText.{number_in, begins_with_number}
use Rattle.unequal_game.proofs.unequal.description.givens_in.Given as goal

abbrev pub invariant-loop-cell : goal.invariant-loop-cell
invariant-loop-cell l = record {
  size : l.givens.size ≡ l.size;
  count : length l.givens.numbers ≡ l.size * l.size;
  good : list_all (begins_with_number l.size) (take l.cell (texts_of l.pieces)) ≡ true;
  numbers : take l.cell l.givens.numbers ≡ map (λ p. unwrap_or (number_in l.size p) 0) (take l.cell (texts_of l.pieces));
}

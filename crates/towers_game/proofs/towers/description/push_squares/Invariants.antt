use Rattle.std.proofs.Common.{◌≡◌, ◌≤◌, ◌++◌, false, drop}
use Rattle.towers_game.specs.TowersText.{squares_written}
use Rattle.towers_game.proofs.towers.description.push_squares.Given as goal

abbrev pub invariant-loop-cell : goal.invariant-loop-cell
invariant-loop-cell l =
    (l.blanks ≤ l.cell)
    × (l.text.items ++ squares_written l.blanks l.after_given (drop l.cell l.givens.numbers) ≡ l.initial.text.items ++ squares_written 0 false l.givens.numbers)

use Rattle.std.proofs.Common.{◌≡◌, ◌++◌, take, map}
use Rattle.std.specs.List.{filter}
use Rattle.unequal_game.specs.UnequalText.{directions, letter_of, is_greater_towards}
use Rattle.unequal_game.proofs.unequal.description.push_piece.Given as goal

abbrev pub invariant-loop-direction : goal.invariant-loop-direction
invariant-loop-direction l =
    l.text.items ≡ l.initial.text.items ++ map letter_of (filter (is_greater_towards l.puzzle l.cell) (take l.direction-index directions))

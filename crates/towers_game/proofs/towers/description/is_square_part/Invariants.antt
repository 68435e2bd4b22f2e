use Rattle.std.proofs.Common.{◌≡◌, length}
use Rattle.towers_game.specs.TowersText.{is_square_part}
use Rattle.towers_game.proofs.towers.description.is_square_part.Given as goal

abbrev pub invariant-loop-rest : goal.invariant-loop-rest
invariant-loop-rest l = is_square_part l.size l.rest ≡ is_square_part l.size l.part

abbrev pub decreases-loop-rest : goal.decreases-loop-rest
decreases-loop-rest l = length l.rest

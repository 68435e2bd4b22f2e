use Rattle.std.proofs.Common.{◌≡◌, length}
use Rattle.towers_game.proofs.GivensFilled.{FillsGivens}
use Rattle.towers_game.proofs.towers.description.fill_givens.Given as goal

abbrev pub invariant-loop-rest : goal.invariant-loop-rest
invariant-loop-rest l = (l.givens.size ≡ l.fn.size) × FillsGivens l.fn.size l.part l.rest l.cell l.givens.numbers

abbrev pub decreases-loop-rest : goal.decreases-loop-rest
decreases-loop-rest l = length l.rest

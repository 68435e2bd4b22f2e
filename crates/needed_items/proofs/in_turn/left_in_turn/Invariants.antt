use Rattle.std.proofs.Common.{◌≡◌, take}
use Rattle.needed_items.specs.InTurn.{IsLeftInTurn, items_in}
use Rattle.needed_items.proofs.in_turn.left_in_turn.Given as goal

abbrev pub invariant-loop-k : goal.invariant-loop-k
invariant-loop-k g l =
    IsLeftInTurn g.P.Rules (g.T.Test.fails l.test) (take l.k (items_in l.order)) l.puzzle l.left
    × g.T.Test.passes l.test l.left
    × ((g.P.Rules.puzzle l.left).size ≡ (g.P.Rules.puzzle l.puzzle).size)

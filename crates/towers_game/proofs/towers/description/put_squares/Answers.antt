-- A digit sets one square.
use Rattle.std.proofs.Common.{arith}
use Rattle.towers_game.proofs.GivensFilled.{digit_filled}
use Rattle.towers_game.proofs.towers.description.put_squares.Goals as goal

pub returns-else-left-eq0-clause-filled : goal.returns-else-left-eq0-clause-filled
returns-else-left-eq0-clause-filled c =
    digit_filled c.args.givens.now.size c.get-width.result c.args.cell _ c.args.givens.now.numbers _ c.set.ensures.numbers
    c.requires.filled (omega arith) (omega arith)

use Rattle.latin_board.proofs.Exchanges.{board_restored, change_restored}
use Rattle.latin_board.proofs.board.Board.swap.Goals as goal

pub returns-clause-twice : goal.returns-clause-twice
returns-clause-twice c =
    rw (c.exchange.ensures.board, c.exchange.ensures.change)
    (board_restored _ _, change_restored _ _ c.size-size.ensures.valid c.requires)

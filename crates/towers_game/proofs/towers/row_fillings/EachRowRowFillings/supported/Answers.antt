use Rattle.std.proofs.Common.{arith}
use Rattle.towers_game.proofs.SettledLines.{alone_kept}
use Rattle.towers_game.proofs.towers.row_fillings.EachRowRowFillings.supported.Goals as goal

pub returns-then-shows_alone : goal.returns-then-shows_alone
returns-then-shows_alone c =
    alone_kept c.args.width c.args.clue c.args.sets.now (omega (arith, c.told-sets, c.requires.width)) c.if-shows_alone.ensures c.requires.rest

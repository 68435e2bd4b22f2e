use Rattle.towers_game.proofs.ReducedRows.{kept_reduced}
use Rattle.towers_game.proofs.towers.row_cache.RowCacheRowFillings.supported.Goals as goal

pub returns : goal.returns
returns c =
    kept_reduced c.args.width c.args.clue c.args.sets.now c.reduced-row.result c.supported-kept.result c.reduced-row.ensures c.requires.width c.told-sets
    c.requires.rest c.supported-kept.ensures

pub returns-in-Some : goal.returns-in-Some
returns-in-Some c =
    kept_reduced c.args.width c.args.clue c.args.sets.now c.reduced-row.result c.in-Some.kept.now c.reduced-row.ensures c.requires.width c.told-sets
    c.requires.rest c.in-Some.ensures

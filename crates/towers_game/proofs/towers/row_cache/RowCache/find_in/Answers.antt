use Rattle.std.proofs.Common.{[], slice_index, slice_index_or}
use Rattle.towers_game.specs.Inner.RowCache.{IsCached}
use Rattle.towers_game.proofs.RowsNoted.{kept_between}
use Rattle.towers_game.proofs.towers.row_cache.RowCache.find_in.Goals as goal

pub returns-then-are_within-2 : goal.returns-then-are_within-2
returns-then-are_within-2 c =
    let k = c.self.inside in
    let slot = c.args.slot in
    let sets = slice_index_or k.sets slot [] in
    let kept = slice_index_or k.kept slot [] in
    let noted : IsCached (slice_index k.widths slot) (slice_index k.clues slot) sets kept = c.self.invariant.each slot c.requires.slot in
    let known : IsCached c.args.width c.args.clue sets kept = rw (c.if-self-slot.true, c.if-self-slot-2.true) at noted in
    kept_between c.args.width c.args.clue sets kept c.args.sets.now known c.requires.width c.told-sets c.if-are_within.ensures c.if-are_within-2.ensures

use Rattle.std.proofs.Common.{◌≡◌, arith}
use Rattle.towers_game.proofs.Supports.{within_test}
use Rattle.towers_game.proofs.towers.row_sets.are_within.Goals as goal

pub returns : goal.returns
returns c =
    let last : c.loop-k.k ≡ 9 = omega (arith, c.loop-k-test.false, c.loop-k.auto.k-end) in
    within_test c.is_empty.result c.args.some.now c.args.all.now c.loop-k.beyond (rw last at c.loop-k.invariant) c.is_empty.ensures.members

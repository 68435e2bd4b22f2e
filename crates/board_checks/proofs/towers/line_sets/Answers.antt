use Rattle.std.proofs.Common.{◌∙◌, arith}
use Rattle.std.proofs.lemmas.List.{length-set}
use Rattle.board_checks.proofs.Clues.{one_more_set}
use Rattle.board_checks.proofs.towers.line_sets.Goals as goal

pub loop-k-preserved : goal.loop-k-preserved
loop-k-preserved c =
    let old = c.loop-k.invariant in
    let here = rw (c.view_cell.ensures.value, c.size-size.ensures.value) at c.numbers_for.ensures in
    record {
      room = length-set c.loop-k.sets c.loop-k.k c.numbers_for.result ∙ old.room;
      each = one_more_set c.args.grid.now c.args.place c.loop-k.k c.numbers_for.result c.loop-k.sets old.room (omega arith) old.each here;
    }

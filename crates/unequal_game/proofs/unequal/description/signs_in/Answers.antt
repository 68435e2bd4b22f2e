use Rattle.std.proofs.Common.{arith}
use Rattle.unequal_game.specs.Inner.UnequalPieces.{texts_of, contradicts_towards}
use Rattle.unequal_game.proofs.RangeLemmas.{none_more}
use Rattle.unequal_game.specs.declared.unequal.sign.Sign.TheVariants.{Absent}
use Rattle.line_steps.proofs.FilledLemmas.{filled_more}
use Rattle.unequal_game.proofs.unequal.description.signs_in.Goals as goal

pub loop-cell-preserved : goal.loop-cell-preserved
loop-cell-preserved c = record {
  filled =
      filled_more Absent 81 _ c.loop-cell.cell c.loop-cell.signs _ (omega (arith, c.square_count-cell-end.ensures.value, c.square_count-cell-end.ensures.bound)) c.in_ok-signs.ensures.sign c.loop-cell.invariant.filled;
  agree =
      none_more (contradicts_towards c.args.size (texts_of c.args.pieces.now) c.args.direction) c.loop-cell.cell
      c.loop-cell.invariant.agree c.in_ok-signs.ensures.agree;
}

use Rattle.std.proofs.Common.{arith}
use Rattle.unequal_game.specs.declared.unequal.sign.Sign.TheVariants.{Absent}
use Rattle.line_steps.proofs.FilledLemmas.{filled_more}
use Rattle.unequal_game.proofs.unequal.rules.signs_of.Goals as goal

pub loop-cell-preserved : goal.loop-cell-preserved
loop-cell-preserved c =
    filled_more Absent 81 _ c.loop-cell.cell c.loop-cell.signs _ (omega (arith, c.square_count-cell-end.ensures.value, c.square_count-cell-end.ensures.bound)) c.sign_towards.ensures c.loop-cell.invariant

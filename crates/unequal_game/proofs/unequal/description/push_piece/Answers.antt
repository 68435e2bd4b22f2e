use Rattle.unequal_game.specs.UnequalText.{directions, is_greater_towards}
use Rattle.unequal_game.proofs.UnequalWritten.{letters_more}
use Rattle.unequal_game.proofs.unequal.description.push_piece.Goals as goal

pub loop-direction-preserved : goal.loop-direction-preserved
loop-direction-preserved c =
    letters_more (is_greater_towards c.args.puzzle.now c.args.cell) directions c.loop-direction.direction-index _ _ _ _ c.loop-direction-test.true c.loop-direction.invariant c.in_ok-push_letter.ensures

use Rattle.unequal_game.proofs.UnequalFullLemmas.{full_signs}
use Rattle.unequal_game.proofs.unequal.rules.UnequalRules.full.Goals as goal

pub returns-clause-signs : goal.returns-clause-signs
returns-clause-signs c =
    full_signs c.args.grid.now c.signs_of.result c.signs_of-2.result c.size-size.ensures.valid c.signs_of.ensures c.signs_of-2.ensures

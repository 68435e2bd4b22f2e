use Rattle.unequal_game.proofs.UnequalTables.{blank_kept}
use Rattle.unequal_game.proofs.unequal.items.blank_unequal.Goals as goal

pub invariant_of-blank : goal.invariant_of-blank
invariant_of-blank c =
    blank_kept c.no_signs.result c.no_signs-2.result c.blank-givens.result c.no_signs.ensures c.no_signs-2.ensures c.size-valid.ensures.valid

use Rattle.towers_game.proofs.TowersTables.{blank_kept}
use Rattle.towers_game.proofs.towers.items.blank_towers.Goals as goal

pub invariant_of-blank : goal.invariant_of-blank
invariant_of-blank c = blank_kept c.no_clues.result c.blank-givens.result c.no_clues.ensures c.size-valid.ensures.valid

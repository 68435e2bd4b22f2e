use Rattle.towers_game.proofs.TowersTables.{HasClues}
use Rattle.towers_game.proofs.towers.rules.TowersRules.full.Given as goal

abbrev pub invariant-loop-place : goal.invariant-loop-place
invariant-loop-place l = HasClues l.grid l.place l.clues

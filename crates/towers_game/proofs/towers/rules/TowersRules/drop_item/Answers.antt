use Rattle.std.proofs.Common.{length, ap, arith}
use Rattle.towers_game.specs.Towers.{TowersValue}
use Rattle.towers_game.proofs.TowersTables.{given_dropped}
use Rattle.towers_game.proofs.towers.rules.TowersRules.drop_item.Goals as goal

pub returns-else-i-count : goal.returns-else-i-count
returns-else-i-count c =
    rw (← c.self.view_is) (given_dropped c.self.inside.givens c.set.new.self c.self.inside.clues c.args.i _ (omega (arith, ap length c.clues-count.ensures.value, ap (λ (v : TowersValue). v.size) c.self.view_is)) c.set.ensures.size c.set.ensures.numbers)

use Rattle.client.specs.LatinItems.{given_dropped}
use Rattle.client.proofs.latin.rules.LatinRules.drop_item.Goals as goal

pub returns : goal.returns
returns c =
    rw (← c.self.view_is) (given_dropped c.self.inside.givens c.set.new.self c.args.i c.set.ensures.size c.set.ensures.numbers)

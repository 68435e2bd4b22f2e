use Rattle.number_sets.proofs.Ends.{greatest_is}
use Rattle.number_sets.proofs.number_set.NumberSet.greatest.Goals as goal

pub returns-clause-value : goal.returns-clause-value
returns-clause-value c = rw (← c.bits-bits.ensures) (greatest_is c.bits-bits.result c.ilog2.result c.ilog2.ensures.power_le c.ilog2.ensures.next_power_gt)

use Rattle.number_sets.proofs.Ends.{least_is}
use Rattle.number_sets.proofs.number_set.NumberSet.least.Goals as goal

pub returns-clause-value : goal.returns-clause-value
returns-clause-value c = rw (← c.bits-bits.ensures) (least_is c.bits-bits.result c.if-bits-eq0.false c.bits-bits.type_inv)

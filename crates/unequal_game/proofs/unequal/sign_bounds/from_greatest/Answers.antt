use Rattle.std.proofs.lemmas.Nat.{le_or_r}
use Rattle.unequal_game.proofs.unequal.sign_bounds.from_greatest.Goals as goal

pub ilog2-top-requires : goal.ilog2-top-requires
ilog2-top-requires c = le_or_r c.bits.result 1

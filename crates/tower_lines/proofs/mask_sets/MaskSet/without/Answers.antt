use Rattle.std.proofs.Common.{◌≡◌, arith}
use Rattle.tower_lines.proofs.mask_sets.MaskSet.without.Goals as goal

pub returns-else-bit-lt6 : goal.returns-else-bit-lt6
returns-else-bit-lt6 g c = let last : c.args.bit ≡ 6 = omega arith in rw last c.without_last.ensures

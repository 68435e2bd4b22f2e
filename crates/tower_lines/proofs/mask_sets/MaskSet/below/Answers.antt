use Rattle.std.proofs.Common.{◌∙◌, ◌^◌, ltb, arith}
use Rattle.tower_lines.specs.Inner.MaskSets.{has_mask}
use Rattle.tower_lines.proofs.MaskSetLemmas.{below_bit, below_bit_has, same_taken}
use Rattle.tower_lines.proofs.mask_sets.MaskSet.below.Goals as goal

pub returns : goal.returns
returns g c = λ m. rw c.from.ensures at (c.common.ensures m) ∙ rw (← c.self.view_is) (same_taken c.self.inside.words (λ n. has_mask (below_bit c.args.bit) n) (λ n. ltb n (2 ^ c.args.bit))
    g.row.W c.self.told c.requires.small (λ n small. below_bit_has c.args.bit n (omega (arith, c.requires.bit)) small) m)

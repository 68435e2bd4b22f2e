use Rattle.std.proofs.Common.{◌∙◌, eqb, count_ones, arith}
use Rattle.tower_lines.specs.Inner.MaskSets.{has_mask}
use Rattle.tower_lines.proofs.MaskSetLemmas.{with_count, with_count_has, same_taken}
use Rattle.tower_lines.proofs.mask_sets.MaskSet.of_count.Goals as goal

pub returns : goal.returns
returns g c = λ m. c.common.ensures m ∙ rw (← c.self.view_is) (same_taken c.self.inside.words (λ n. has_mask (with_count c.args.count) n) (λ n. eqb (count_ones n) c.args.count)
    g.row.W c.self.told c.requires.small (λ n small. with_count_has c.args.count n (omega (arith, c.requires.count)) small) m)

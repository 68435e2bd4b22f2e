use Rattle.std.proofs.Common.{◌+◌, ◌/◌, ◌^◌, ◌&&◌, not, arith}
use Rattle.std.proofs.lemmas.Bool.{and_right}
use Rattle.number_sets.specs.Sets.{has_number}
use Rattle.tower_lines.specs.Inner.MaskSets.{has_mask}
use Rattle.tower_lines.proofs.MaskSetLemmas.{word_without_low, has_mask-past, words_have}
use Rattle.tower_lines.proofs.mask_sets.MaskSet.without_low.Goals as goal

pub returns : goal.returns
returns g c =
    let a = c.self.inside.words in
    let bit = c.args.bit in
    rw (← c.self.view_is) (words_have (λ m. not (has_number m bit) && has_mask a (m + 2 ^ bit)) c.loop-i.words g.row.W c.loop-i.invariant.0
    (λ m inside. rw (c.loop-i.invariant.1 (m / 64) (omega arith)) (word_without_low a bit m c.from.result c.requires c.from.ensures))
    (λ m past. and_right _ _ (has_mask-past a (m + 2 ^ bit) (omega (arith, c.self.told)))))

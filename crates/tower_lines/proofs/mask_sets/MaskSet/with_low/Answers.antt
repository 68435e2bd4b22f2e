use Rattle.std.proofs.Common.{◌-◌, ◌/◌, ◌^◌, ◌&&◌, arith}
use Rattle.number_sets.specs.Sets.{has_number}
use Rattle.tower_lines.specs.Inner.MaskSets.{has_mask}
use Rattle.tower_lines.proofs.MaskSetLemmas.{word_with_low, words_have, with_past_low}
use Rattle.tower_lines.proofs.mask_sets.MaskSet.with_low.Goals as goal

pub returns : goal.returns
returns g c =
    let a = c.self.inside.words in
    let bit = c.args.bit in
    rw (← c.self.view_is) (words_have (λ m. has_number m bit && has_mask a (m - 2 ^ bit)) c.loop-i.words g.row.W c.loop-i.invariant.0
    (λ m inside. rw (c.loop-i.invariant.1 (m / 64) (omega arith)) (word_with_low a bit m c.from.result c.requires c.from.ensures))
    (λ m past. with_past_low a g.row.W bit m c.self.told c.requires past))

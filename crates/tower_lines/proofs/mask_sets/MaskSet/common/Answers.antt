use Rattle.std.proofs.Common.{◌/◌, ◌%◌, ◌&&◌, get_or, arith}
use Rattle.std.proofs.lemmas.Bool.{and_left}
use Rattle.number_sets.proofs.Members.{has_number-and}
use Rattle.tower_lines.specs.Inner.MaskSets.{has_mask}
use Rattle.tower_lines.proofs.MaskSetLemmas.{has_mask-past, words_have}
use Rattle.tower_lines.proofs.mask_sets.MaskSet.common.Goals as goal

pub returns : goal.returns
returns g c =
    let a = c.args.words.now in
    let d = c.args.others.now in
    words_have (λ m. has_mask a m && has_mask d m) c.loop-i.both g.row.W c.loop-i.invariant.0
    (λ m inside. rw (c.loop-i.invariant.1 (m / 64) (omega arith)) (has_number-and (get_or a (m / 64) 0) (get_or d (m / 64) 0) (m % 64)))
    (λ m past. and_left _ _ (has_mask-past a m (omega arith)))

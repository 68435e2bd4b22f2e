use Rattle.std.proofs.Common.{◌/◌, ◌%◌, ◌&&◌, not, get_or, arith}
use Rattle.std.proofs.lemmas.Bool.{and_left}
use Rattle.std.proofs.lemmas.Nat.{mod_below}
use Rattle.tower_lines.specs.Inner.MaskSets.{has_mask}
use Rattle.tower_lines.proofs.MaskSetLemmas.{has_mask-past, has_number-lacks, words_have}
use Rattle.tower_lines.proofs.mask_sets.MaskSet.apart.Goals as goal

pub returns : goal.returns
returns g c =
    let a = c.args.words.now in
    let d = c.args.others.now in
    words_have (λ m. has_mask a m && not (has_mask d m)) c.loop-i.rest g.row.W c.loop-i.invariant.0
    (λ m inside. rw (c.loop-i.invariant.1 (m / 64) (omega arith))
    (has_number-lacks (get_or a (m / 64) 0) (get_or d (m / 64) 0) (m % 64) (omega (arith, c.type_inv.others (m / 64))) (mod_below m 64 (omega arith))))
    (λ m past. and_left _ _ (has_mask-past a m (omega arith)))

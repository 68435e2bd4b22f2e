use Rattle.std.proofs.Common.{◌/◌, ◌%◌, ◌||◌, get_or, arith}
use Rattle.std.proofs.lemmas.Bool.{or_from}
use Rattle.number_sets.proofs.Members.{has_number-or}
use Rattle.tower_lines.specs.Inner.MaskSets.{has_mask}
use Rattle.tower_lines.proofs.MaskSetLemmas.{has_mask-past, words_have}
use Rattle.tower_lines.proofs.mask_sets.MaskSet.union.Goals as goal

pub returns : goal.returns
returns g c =
    let a = c.self.inside.words in
    let d = c.other.inside.words in
    rw (← c.self.view_is, ← c.other.view_is) (words_have (λ m. has_mask a m || has_mask d m) c.loop-i.words g.row.W c.loop-i.invariant.0
    (λ m inside. rw (c.loop-i.invariant.1 (m / 64) (omega arith)) (has_number-or (get_or a (m / 64) 0) (get_or d (m / 64) 0) (m % 64)))
    (λ m past. or_from _ _ (has_mask-past a m (omega (arith, c.self.told))) (has_mask-past d m (omega (arith, c.other.told)))))

use Rattle.std.proofs.Common.{◌/◌, ◌%◌, false, refl, arith}
use Rattle.number_sets.proofs.Members.{has_number-none}
use Rattle.tower_lines.proofs.MaskSetLemmas.{some_mask, words_have}
use Rattle.tower_lines.proofs.mask_sets.MaskSet.is_empty.Goals as goal

pub returns-then-self-i-ne0 : goal.returns-then-self-i-ne0
returns-then-self-i-ne0 g c =
    rw (← c.self.view_is) (some_mask c.self.inside.words c.loop-i.i c.if-self-i-ne0.true (omega arith))

pub returns : goal.returns
returns g c =
    rw (← c.self.view_is) (words_have (λ m. false) c.self.inside.words g.row.W c.self.told
    (λ m inside. rw (c.loop-i.invariant (m / 64) (omega arith)) (has_number-none (m % 64))) (λ m past. refl))

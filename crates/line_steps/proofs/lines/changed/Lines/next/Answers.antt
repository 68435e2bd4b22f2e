use Rattle.std.proofs.Common.{◌≡◌, ◌∙◌, ℕ, true, bit_and, subst, sym}
use Rattle.number_sets.specs.Sets.{has_number, IsSubset}
use Rattle.line_steps.proofs.LineSets.{masked_among, none_below, one_below}
use Rattle.line_steps.proofs.lines.changed.Lines.next.Goals as goal
use Rattle.line_steps.proofs.lines.changed.Lines.next.Goals.{then-later-eq0, else-later-eq0}

pub returns-then-next-eq0 : goal.returns-then-next-eq0
returns-then-next-eq0 c =
    rw (← c.self.view_is)
    (none_below c.args.count c.self.inside.bits c.waiting.inside.bits (rw (← c.waiting.view_is) at c.first.ensures) (elim c.if-later-eq0.branch [
      | then-later-eq0 w ↦ sym w.next-is ∙ c.if-next-eq0.true
      | else-later-eq0 w ↦ absurd (w.if-later-eq0.false (sym w.next-is ∙ c.if-next-eq0.true))
    ]))

pub returns : goal.returns
returns c =
    let waiting = bit_and c.self.inside.bits c.waiting.inside.bits in
    let next = c.if-later-eq0.next in
    let part : IsSubset next waiting = elim c.if-later-eq0.branch [
      | then-later-eq0 w ↦ λ k has. subst (λ (m : ℕ). has_number m k ≡ true) w.next-is has
      | else-later-eq0 w ↦ masked_among waiting _ next w.next-is
    ] in
    rw (← c.self.view_is)
    (one_below c.args.count c.self.inside.bits c.waiting.inside.bits next (rw (← c.waiting.view_is) at c.first.ensures) part c.requires.count
    c.if-next-eq0.false)

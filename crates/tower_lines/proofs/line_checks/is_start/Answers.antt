use Rattle.std.proofs.Common.{◌∙◌, refl, sym, arith}
use Rattle.std.proofs.lemmas.Bool.{false≢true}
use Rattle.std.proofs.lemmas.List.{take_all}
use Rattle.tower_lines.proofs.CheckLemmas.{used_start_none, used_start_more, no_start}
use Rattle.tower_lines.proofs.line_checks.is_start.Goals as goal

pub loop-place-init : goal.loop-place-init
loop-place-init c = rw c.empty-used.ensures (used_start_none c.args.sets.now)

pub returns-then-not-can_be : goal.returns-then-not-can_be
returns-then-not-can_be c =
    (λ e. absurd (false≢true e), λ start. absurd (no_start c.loop-place-test.true c.loop-place.invariant (sym c.can_be.ensures ∙ c.if-not-can_be.true) start))

pub loop-place-preserved : goal.loop-place-preserved
loop-place-preserved c =
    rw c.union-used.ensures.value
    (used_start_more c.args.line.now c.one.result c.loop-place-test.true c.requires.long c.loop-place.invariant (sym c.can_be.ensures ∙ c.if-not-can_be.false) c.one.ensures.members)

pub returns : goal.returns
returns c =
    let all = take_all c.loop-place.place c.args.line.now (omega arith) in
    (λ e. rw all at c.loop-place.invariant.start, λ start. refl)

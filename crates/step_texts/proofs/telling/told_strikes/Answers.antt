use Rattle.std.proofs.Common.{ℕ, ◌<◌, ◌^◌, refl, subst, arith}
use Rattle.step_texts.specs.declared.told.Strike.{Strike}
use Rattle.step_texts.proofs.LooksTold.{strikes_more}
use Rattle.step_texts.proofs.telling.told_strikes.Goals as goal

pub loop-step-preserved : goal.loop-step-preserved
loop-step-preserved c =
    let step = c.step-item.result in
    let low : step.values < 2 ^ 16 = subst (λ (n : ℕ). n < 2 ^ 16) c.bits-bits.ensures (omega arith) in
    let strike : Strike = record { cell = step.cell; values = step.values; shows = c.shows_of.result } in
    strikes_more c.args.candidates.now c.args.first.now.reason c.args.look.now c.loop-step.step-index c.loop-step.strikes.items c.push.new.self.items step strike
    c.loop-step-test.true c.step-item.is c.in_ok-push.ensures.items c.loop-step.invariant
    (record { cell = refl; values = refl; low = low; shows = c.shows_of.ensures c.args.candidates.now c.args.first.now.reason c.requires })

use Rattle.line_steps.specs.Laws.Less.{all_less}
use Rattle.line_steps.specs.Reasons.{StruckBy}
use Rattle.std.proofs.Common.{◌≡◌, ℕ, ◌-◌, ◌*◌, ◌<◌, ◌≤◌, length, ap, arith}
use Rattle.step_chains.proofs.Settled.{new_longer, new_leads}
use Rattle.step_chains.proofs.Live.{new_timely}
use Rattle.step_chains.proofs.next_steps.all_steps.Goals as goal

pub loop-step-smaller : goal.loop-step-smaller
loop-step-smaller g c =
    let old = c.loop-step.candidates in
    let new = c.remove_all.new.self in
    let small : old.size ≤ 9 = omega (arith, c.size-size.ensures.valid.largest, c.remove_all.ensures.size) in
    let longer : length old.trail < length new.trail =
    new_longer (StruckBy g.P.Rules.puzzle g.P.Steps.own c.args.p.now) c.args.grade old new c.in-Some.step small c.in-Some.ensures.1 c.remove_all.ensures.trail in
    let cube : new.size * new.size * new.size ≡ old.size * old.size * old.size = ap (λ (n : ℕ). n * n * n) c.remove_all.ensures.size in
    let bound : length new.trail ≤ new.size * new.size * new.size = omega (arith, c.trail_len-len.ensures.value, c.trail_len-len.ensures.bound) in
    let less : new.size * new.size * new.size - length new.trail < old.size * old.size * old.size - length old.trail = omega (arith, longer, cube, bound) in
    less

pub loop-step-preserved : goal.loop-step-preserved
loop-step-preserved g c =
    let Struck = StruckBy g.P.Rules.puzzle g.P.Steps.own c.args.p.now in
    let old = c.loop-step.candidates in
    let new = c.remove_all.new.self in
    let small : old.size ≤ 9 = omega (arith, c.size-size.ensures.valid.largest, c.remove_all.ensures.size) in (
      new_leads Struck (all_less (g.P.Rules.puzzle c.args.p.now) (g.P.Steps.own c.args.p.now) (g.met.P.Steps.own_less c.args.p.now)) c.args.grade c.args.candidates.now old new c.loop-step.steps.items c.push.new.self.items
          c.in-Some.step c.loop-step.invariant.0 c.in-Some.ensures.1 c.remove_all.ensures.size c.remove_all.ensures.trail c.in_ok-push.ensures.items,
      new_timely Struck c.args.grade c.args.candidates.now old c.loop-step.steps.items c.push.new.self.items c.in-Some.step small c.loop-step.invariant.0
          c.in-Some.ensures c.in_ok-push.ensures.items c.loop-step.invariant.1,
    )

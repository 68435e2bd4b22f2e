use Rattle.line_steps.specs.Reasons.{StruckBy}
use Rattle.std.proofs.Common.{get_or, arith}
use Rattle.step_chains.specs.Inner.Quiet.{AreIdleIn}
use Rattle.step_chains.specs.declared.reasons.TheConstants.{PARTS}
use Rattle.step_chains.specs.declared.reasons.Part.TheVariants.{Squares}
use Rattle.step_chains.proofs.Idle.{all_next}
use Rattle.step_chains.proofs.Settled.{all_parts, idle_settled}
use Rattle.step_chains.proofs.next_steps.next_step.Goals as goal

pub loop-part-preserved : goal.loop-part-preserved
loop-part-preserved g c =
    all_next (λ j. AreIdleIn (StruckBy g.P.Rules.puzzle g.P.Steps.own c.args.p.now) c.args.grade c.args.candidates.now (get_or PARTS j Squares)) c.loop-part.part
    c.loop-part.invariant c.in_default.ensures

pub returns : goal.returns
returns g c =
    let Struck = StruckBy g.P.Rules.puzzle g.P.Steps.own c.args.p.now in
    let d = c.args.candidates.now in
    let all = c.loop-part.invariant in
    let end = c.loop-part-test.false in
    idle_settled (g.P.Rules.puzzle c.args.p.now) (g.P.Steps.own c.args.p.now)
    (λ e reason cell value. g.met.P.Steps.stands_along c.args.p.now e reason cell value c.size-valid.ensures.valid) c.args.grade d c.size-size.ensures.valid.largest c.requires
    (all_parts (AreIdleIn Struck c.args.grade d) (all 0 (omega (arith, end))) (all 1 (omega (arith, end))) (all 2 (omega (arith, end)))
    (all 3 (omega (arith, end))) (all 4 (omega (arith, end))))

use Rattle.line_steps.specs.Reasons.{StruckBy}
use Rattle.std.proofs.Common.{ap, ◌∙◌, arith}
use Rattle.step_chains.specs.Inner.Listed.{place_count}
use Rattle.step_chains.specs.Inner.Quiet.{IsIdleAt}
use Rattle.step_chains.proofs.Idle.{all_next}
use Rattle.step_chains.proofs.next_steps.step_in_part.Goals as goal

pub loop-index-preserved : goal.loop-index-preserved
loop-index-preserved g c =
    all_next (IsIdleAt (StruckBy g.P.Rules.puzzle g.P.Steps.own c.args.p.now) c.args.grade c.args.candidates.now c.args.part) c.loop-index.index c.loop-index.invariant
    c.in_default.ensures

pub returns : goal.returns
returns g c = λ place low.
    let count = c.count-index-end.ensures ∙ ap (λ w. place_count w c.args.part) c.size.ensures.value in
    c.loop-index.invariant place (omega (arith, low, count, c.loop-index-test.false))

use Rattle.std.proofs.Common.{arith}
use Rattle.std.proofs.lemmas.Bool.{both_ways}
use Rattle.named_steps.specs.declared.goal.Goal.TheVariants.{OnlyPlace}
use Rattle.step_chains.specs.Inner.Goals.{IsOpenShown}
use Rattle.step_chains.proofs.OpenGoals.{none_next}
use Rattle.step_chains.proofs.goals.shown_in_place.Goals as goal

pub loop-value-preserved : goal.loop-value-preserved
loop-value-preserved c = λ v low h.
    none_next (λ v. IsOpenShown c.args.grid.now c.args.candidates.now (OnlyPlace c.args.line c.args.index v)) c.loop-value.value c.loop-value.invariant
    (λ h. both_ways c.is_shown.result c.if-is_shown.false (c.is_shown.ensures.1 h.shown)) v low h

pub returns : goal.returns
returns c = λ v h.
    c.loop-value.invariant v (omega (arith, h.goal_of.3, c.loop-value-test.false, c.get-value-end.ensures.value, c.size-2.ensures.value)) h

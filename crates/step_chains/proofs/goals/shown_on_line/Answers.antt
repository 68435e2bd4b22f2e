use Rattle.std.proofs.Common.{ℕ, arith}
use Rattle.named_steps.specs.declared.goal.Goal.TheVariants.{OnlyPlace}
use Rattle.step_chains.specs.Inner.Goals.{IsOpenShown}
use Rattle.step_chains.proofs.OpenGoals.{none_next}
use Rattle.step_chains.proofs.goals.shown_on_line.Goals as goal

pub loop-index-preserved : goal.loop-index-preserved
loop-index-preserved c = λ j v low h.
    none_next (λ j. (v : ℕ) × IsOpenShown c.args.grid.now c.args.candidates.now (OnlyPlace c.args.line j v)) c.loop-index.index
    (λ j low h. c.loop-index.invariant j h.0 low h.1) (λ h. c.in_default.ensures h.0 h.1) j low (v, h)

pub returns : goal.returns
returns c = λ j v h.
    c.loop-index.invariant j v (omega (arith, h.goal_of.1, c.loop-index-test.false, c.get-index-end.ensures.value, c.size.ensures.value)) h

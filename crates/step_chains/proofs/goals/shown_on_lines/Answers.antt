use Rattle.std.proofs.Common.{ℕ, arith}
use Rattle.named_steps.specs.declared.goal.Goal.TheVariants.{OnlyPlace}
use Rattle.step_chains.specs.Inner.Goals.{IsOpenShown}
use Rattle.step_chains.proofs.OpenGoals.{none_next}
use Rattle.step_chains.proofs.goals.shown_on_lines.Goals as goal

pub loop-line-preserved : goal.loop-line-preserved
loop-line-preserved c = λ j k v low h.
    none_next (λ j. (k v : ℕ) × IsOpenShown c.args.grid.now c.args.candidates.now (OnlyPlace j k v)) c.loop-line.line
    (λ j low h. c.loop-line.invariant j h.0 h.1 low h.2) (λ h. c.in_default.ensures h.0 h.1 h.2) j low (k, v, h)

pub returns : goal.returns
returns c = λ j k v h.
    c.loop-line.invariant j k v (omega (arith, h.goal_of.0, c.loop-line-test.false, c.get-line-end.ensures.value, c.size.ensures.value)) h

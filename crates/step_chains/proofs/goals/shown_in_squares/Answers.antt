use Rattle.std.proofs.Common.{◌≡◌, ℕ, ◌*◌, ◌<◌, sym, ◌∙◌, subst, arith}
use Rattle.named_steps.specs.declared.goal.Goal.TheVariants.{OnlyValue}
use Rattle.step_chains.specs.Inner.Goals.{IsOpenShown}
use Rattle.step_chains.proofs.OpenGoals.{none_next}
use Rattle.step_chains.proofs.goals.shown_in_squares.Goals as goal

pub loop-cell-preserved : goal.loop-cell-preserved
loop-cell-preserved c = λ j v low h.
    none_next (λ j. (v : ℕ) × IsOpenShown c.args.grid.now c.args.candidates.now (OnlyValue j v)) c.loop-cell.cell
    (λ j low h. c.loop-cell.invariant j h.0 low h.1) (λ h. c.in_default.ensures h.0 h.1) j low (v, h)

pub returns : goal.returns
returns c = λ cell v h.
    let g = c.args.grid.now in
    let width : c.get-width.result ≡ g.size = c.get-width.ensures.value ∙ c.size.ensures.value in
    let low : cell < c.get-width.result * c.get-width.result = subst (λ (w : ℕ). cell < w * w) (sym width) h.goal_of.inside in
    c.loop-cell.invariant cell v (omega (arith, low, c.loop-cell-test.false)) h

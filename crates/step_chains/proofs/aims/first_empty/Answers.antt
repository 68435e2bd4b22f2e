use Rattle.std.proofs.Common.{ℕ}
use Rattle.line_steps.specs.Left.{IsLeft}
use Rattle.step_chains.proofs.Idle.{all_next}
use Rattle.step_chains.proofs.aims.first_empty.Goals as goal

pub loop-cell-preserved : goal.loop-cell-preserved
loop-cell-preserved c =
    let one = c.if-is_empty.ensures.members in
    let left = (c.values.ensures one.0).0 one.1 in
    all_next (λ j. (value : ℕ) × IsLeft c.args.candidates.now j value) c.loop-cell.cell c.loop-cell.invariant
    (one.0, record { pair = left.0; may = left.1 })

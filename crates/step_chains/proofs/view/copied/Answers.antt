use Rattle.line_steps.specs.Left.{all_of}
use Rattle.line_steps.proofs.Takes.{takes_next}
use Rattle.step_chains.specs.Inner.Views.{IsGone}
use Rattle.step_chains.proofs.view.copied.Goals as goal

pub loop-cell-preserved : goal.loop-cell-preserved
loop-cell-preserved c =
    takes_next (λ j. j) (IsGone c.args.view.now) c.loop-cell.cell c.gone_from.result (all_of c.args.view.now.size) c.loop-cell.candidates
    c.strike.new.candidates c.loop-cell.invariant c.strike.ensures (λ v pair. c.gone_from.ensures v pair)

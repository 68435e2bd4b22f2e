use Rattle.line_steps.specs.Left.{all_of}
use Rattle.line_steps.proofs.Takes.{takes_next}
use Rattle.step_chains.specs.Inner.Views.{IsHidden}
use Rattle.step_chains.proofs.view.view_on.Goals as goal

pub loop-square-preserved : goal.loop-square-preserved
loop-square-preserved c =
    takes_next (λ j. j) (IsHidden c.args.board.now) c.loop-square.square c.hidden_on.result (all_of c.args.board.now.size) c.loop-square.candidates
    c.strike.new.candidates c.loop-square.invariant c.strike.ensures (λ v pair. c.hidden_on.ensures v pair)

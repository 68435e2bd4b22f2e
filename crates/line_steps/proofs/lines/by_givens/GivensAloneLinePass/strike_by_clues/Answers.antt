use Rattle.line_steps.specs.Givens.{given_puzzle}
use Rattle.line_steps.specs.Laws.Along.{quiet_own}
use Rattle.line_steps.specs.Reasons.{NoneOwn}
use Rattle.line_steps.specs.declared.grade.Grade.TheVariants.{Hard}
use Rattle.line_steps.proofs.lines.by_givens.GivensAloneLinePass.strike_by_clues.Goals as goal

pub returns-clause-quiet : goal.returns-clause-quiet
returns-clause-quiet c = λ none.
    quiet_own (given_puzzle c.args.self.now.givens.now) NoneOwn Hard c.args._line c.args._candidates.now (λ reason cell value has along pair h. absurd h)

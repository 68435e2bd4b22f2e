use Rattle.std.proofs.Common.{arith}
use Rattle.unequal_game.specs.Laws.UnequalReasons.{signs_along}
use Rattle.unequal_game.specs.UnequalReasons.{IsUnequalStruckBy}
use Rattle.line_steps.proofs.Chains.{higher_has}
use Rattle.line_steps.proofs.Leads.{leads_wider}
use Rattle.line_steps.proofs.StayingLines.{stays_all}
use Rattle.line_steps.specs.declared.grade.Grade.TheVariants.{Easy, Hard}
use Rattle.unequal_game.proofs.unequal.lines.UnequalLinePass.strike_by_clues.Goals as goal

pub returns-clause-leads : goal.returns-clause-leads
returns-clause-leads c =
    leads_wider (IsUnequalStruckBy c.args.self.now) (IsUnequalStruckBy c.args.self.now) Easy Hard (λ d reason cell x s. s) (higher_has Easy Hard (omega arith))
    c.args.candidates.now c.strike_signs.new.candidates c.strike_signs.ensures.leads

pub returns-clause-quiet : goal.returns-clause-quiet
returns-clause-quiet c = λ none.
    let a = c.args.candidates.now in
    let b = c.strike_signs.new.candidates in
    signs_along c.args.self.now Hard c.args.line b
    (c.strike_signs.ensures.quiet (stays_all c.args.line c.strike_signs.result c.args.line a b none c.strike_signs.ensures.loses))

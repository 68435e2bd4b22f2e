use Rattle.std.proofs.lemmas.Bool.Decides.{nat_tests}
use Rattle.std.proofs.lemmas.Grind.{common_steps}
use Rattle.std.proofs.Common.{sym, subst, arith}
use Rattle.unequal_game.specs.UnequalReasons.{IsUnequalStruckBy}
use Rattle.line_steps.specs.Along.{IsQuietAlong}
use Rattle.unequal_game.specs.Laws.UnequalReasons.{signs_along}
use Rattle.line_steps.specs.Laws.Along.{latin_along}
use Rattle.line_steps.proofs.Chains.{higher_has}
use Rattle.line_steps.proofs.Leads.{leads_wider}
use Rattle.line_steps.proofs.StayingLines.{stays_all}
use Rattle.line_steps.specs.declared.grade.Grade.{Grade}
use Rattle.line_steps.specs.declared.grade.Grade.TheVariants.{Easy, Hard}
use Rattle.unequal_game.proofs.unequal.steps.UnequalSteps.strike_by_clues.Goals as goal

pub returns-in-Latin-clause-quiet : goal.returns-in-Latin-clause-quiet
returns-in-Latin-clause-quiet c = grind (arith, nat_tests, common_steps, latin_along)

pub returns-in-Easy-clause-quiet : goal.returns-in-Easy-clause-quiet
returns-in-Easy-clause-quiet c = λ none.
    let a = c.args.candidates.now in
    let b = c.strike_signs.new.candidates in
    subst (λ (grade : Grade). IsQuietAlong (IsUnequalStruckBy c.args.self.now) grade c.args.line b) (sym c.in-Easy.is)
    (signs_along c.args.self.now Easy c.args.line b (c.strike_signs.ensures.quiet (stays_all c.args.line c.strike_signs.result c.args.line a b none c.strike_signs.ensures.loses)))

pub returns-in-Hard-clause-leads : goal.returns-in-Hard-clause-leads
returns-in-Hard-clause-leads c = grind (arith, nat_tests, common_steps, leads_wider, higher_has)

pub returns-in-Hard-clause-quiet : goal.returns-in-Hard-clause-quiet
returns-in-Hard-clause-quiet c = λ none.
    let a = c.args.candidates.now in
    let b = c.strike_signs-in-Hard.new.candidates in
    subst (λ (grade : Grade). IsQuietAlong (IsUnequalStruckBy c.args.self.now) grade c.args.line b) (sym c.in-Hard.is)
    (signs_along c.args.self.now Hard c.args.line b (c.strike_signs-in-Hard.ensures.quiet (stays_all c.args.line c.strike_signs-in-Hard.result c.args.line a b none c.strike_signs-in-Hard.ensures.loses)))

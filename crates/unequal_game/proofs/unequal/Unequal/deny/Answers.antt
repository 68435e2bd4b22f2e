use Rattle.trail_solver.proofs.Earlier.{earlier_refl}
use Rattle.unequal_game.proofs.UnequalDenied.{lower_denied, number_denied, right_denied}
use Rattle.unequal_game.proofs.unequal.Unequal.deny.Goals as goal

pub returns-in-RightSign-clause-less : goal.returns-in-RightSign-clause-less
returns-in-RightSign-clause-less c = earlier_refl c.args.candidates.now

pub returns-in-LowerSign-clause-less : goal.returns-in-LowerSign-clause-less
returns-in-LowerSign-clause-less c = earlier_refl c.args.candidates.now

pub returns-in-RightSign-clause-denies : goal.returns-in-RightSign-clause-denies
returns-in-RightSign-clause-denies c =
    right_denied c.args.self.now c.turn_right.new.self c.args.item c.in-RightSign.cell c.args.candidates.now c.turn_right.ensures.valid
    c.in-RightSign.is c.requires.inside c.turn_right.ensures.value

pub returns-in-LowerSign-clause-denies : goal.returns-in-LowerSign-clause-denies
returns-in-LowerSign-clause-denies c =
    lower_denied c.args.self.now c.turn_below.new.self c.args.item c.in-LowerSign.cell c.args.candidates.now c.turn_below.ensures.valid
    c.in-LowerSign.is c.requires.inside c.turn_below.ensures.value

pub returns-in-Given-clause-denies : goal.returns-in-Given-clause-denies
returns-in-Given-clause-denies c =
    number_denied c.args.self.now c.put.new.self c.args.item c.in-Given.cell c.given.result c.args.candidates.now
    c.deny_given.new.candidates c.in-Given.is c.put.ensures.value c.given.ensures.value c.deny_given.ensures.keeps

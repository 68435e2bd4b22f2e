use Rattle.std.proofs.Common.{sym, subst}
use Rattle.towers_game.specs.TowersReasons.{IsTowersStruckBy}
use Rattle.line_steps.specs.Along.{IsQuietAlong}
use Rattle.towers_game.specs.Laws.TowersReasons.{easy_along, hard_along}
use Rattle.line_steps.specs.Laws.Along.{latin_along}
use Rattle.line_steps.specs.declared.grade.Grade.{Grade}
use Rattle.towers_game.proofs.towers.steps.TowersSteps.strike_by_clues.Goals as goal

pub returns-in-Latin-clause-quiet : goal.returns-in-Latin-clause-quiet
returns-in-Latin-clause-quiet c = λ none.
    let v = c.args.self.now in
    subst (λ (grade : Grade). IsQuietAlong (IsTowersStruckBy v) grade c.args.line c.args.candidates.now) (sym c.in-Latin.is)
    (latin_along (IsTowersStruckBy v) c.args.line c.args.candidates.now)

pub returns-in-Easy-clause-quiet : goal.returns-in-Easy-clause-quiet
returns-in-Easy-clause-quiet c = λ none.
    let v = c.args.self.now in
    subst (λ (grade : Grade). IsQuietAlong (IsTowersStruckBy v) grade c.args.line c.strike_views.new.candidates) (sym c.in-Easy.is)
    (easy_along v c.args.line c.strike_views.new.candidates (c.strike_views.ensures.quiet none))

pub returns-in-Hard-clause-quiet : goal.returns-in-Hard-clause-quiet
returns-in-Hard-clause-quiet c = λ none.
    let v = c.args.self.now in
    subst (λ (grade : Grade). IsQuietAlong (IsTowersStruckBy v) grade c.args.line c.strike_views-in-Hard.new.candidates) (sym c.in-Hard.is)
    (hard_along v c.args.line c.strike_views-in-Hard.new.candidates (c.strike_views-in-Hard.ensures.quiet none))

use Rattle.towers_game.specs.Laws.TowersReasons.{hard_along}
use Rattle.towers_game.proofs.towers.lines.TowersLinePass.strike_by_clues.Goals as goal

pub returns-clause-quiet : goal.returns-clause-quiet
returns-clause-quiet c = λ none. hard_along c.args.self.now c.args.line c.strike_views.new.candidates (c.strike_views.ensures.quiet none)

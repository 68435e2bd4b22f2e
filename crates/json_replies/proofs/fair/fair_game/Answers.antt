use Rattle.line_steps.specs.Reasons.{StruckBy}
use Rattle.std.proofs.Common.{sym, ◌∙◌}
use Rattle.needed_items.proofs.ItemLaws.{laws_of}
use Rattle.fair_games.proofs.FairSteps.{fair_puzzle, draw_size}
use Rattle.json_replies.proofs.fair.fair_game.Goals as goal

pub returns-in-Some-clause-valid : goal.returns-in-Some-clause-valid
returns-in-Some-clause-valid g c =
    (fair_puzzle g.P.Rules (StruckBy g.P.Rules.puzzle g.P.Steps.own) c.in_ok-request.request.grade _ c.in-Some.puzzle
    (laws_of g.met.P.Rules) c.in-Some.ensures.fair).valid

pub returns-in-Some-clause-size : goal.returns-in-Some-clause-size
returns-in-Some-clause-size g c =
    let r = c.in_ok-request.request in
    sym ((fair_puzzle g.P.Rules (StruckBy g.P.Rules.puzzle g.P.Steps.own) r.grade _ c.in-Some.puzzle (laws_of g.met.P.Rules) c.in-Some.ensures.fair).size
    ∙ draw_size (g.P.FairGame.trial_of r.grade) r.size (g.P.Rules.items_of r.size) _ c.in-Some.ensures.fair.draw)

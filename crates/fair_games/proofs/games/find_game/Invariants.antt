use Rattle.line_steps.specs.Reasons.{StruckBy}
use Rattle.std.proofs.Common.{◌≡◌, ℕ, ◌<◌}
use Rattle.fair_games.specs.Draws.{stream_after, draw_at}
use Rattle.fair_games.specs.Fair.{IsPassedOver}
use Rattle.fair_games.proofs.games.find_game.Given as goal

abbrev pub invariant-loop-draw : goal.invariant-loop-draw
invariant-loop-draw g l =
    (g.R.Rng.stream l.rng ≡ stream_after (g.P.FairGame.trial_of l.fn.grade) l.fn.size (g.P.Rules.items_of l.fn.size) l._draw (g.R.Rng.stream l.fn.rng))
    × ((n : ℕ) → n < l._draw → IsPassedOver g.P.Rules (StruckBy g.P.Rules.puzzle g.P.Steps.own) l.fn.grade
    (draw_at (g.P.FairGame.trial_of l.fn.grade) l.fn.size (g.P.Rules.items_of l.fn.size) (g.R.Rng.stream l.fn.rng) n))

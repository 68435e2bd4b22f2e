use Rattle.line_steps.specs.Reasons.{StruckBy}
use Rattle.std.proofs.lemmas.Bool.{both_ways}
use Rattle.fair_games.proofs.FairSteps.{found_fair, next_left, next_passed}
use Rattle.fair_games.proofs.games.find_game.Goals as goal

pub returns-then-is_of_grade-clause-fair : goal.returns-then-is_of_grade-clause-fair
returns-then-is_of_grade-clause-fair g c =
    let size = c.args.size in
    found_fair g.P.Rules (StruckBy g.P.Rules.puzzle g.P.Steps.own) c.args.grade (g.P.FairGame.trial_of c.args.grade) size (g.P.Rules.items_of size) c.loop-draw._draw
    (g.R.Rng.stream c.args.rng.now) (g.R.Rng.stream c.loop-draw.rng) c.draw_game-puzzle.result c.loop-draw.invariant.0 c.draw_game-puzzle.ensures.pruned
    (c.is_of_grade.ensures.0 c.if-is_of_grade.true) c.loop-draw.invariant.1 c.loop-draw-test.true

pub loop-draw-preserved : goal.loop-draw-preserved
loop-draw-preserved g c =
    let size = c.args.size in (
      next_left (g.P.FairGame.trial_of c.args.grade) size (g.P.Rules.items_of size) c.loop-draw._draw (g.R.Rng.stream c.args.rng.now)
          (g.R.Rng.stream c.loop-draw.rng) (g.R.Rng.stream c.draw_game-puzzle.new.rng) c.loop-draw.invariant.0 c.draw_game-puzzle.ensures.left,
      next_passed g.P.Rules (StruckBy g.P.Rules.puzzle g.P.Steps.own) c.args.grade (g.P.FairGame.trial_of c.args.grade) size (g.P.Rules.items_of size) c.loop-draw._draw
          (g.R.Rng.stream c.args.rng.now) (g.R.Rng.stream c.loop-draw.rng) c.draw_game-puzzle.result c.loop-draw.invariant.0 c.draw_game-puzzle.ensures.pruned
          (λ graded. both_ways c.is_of_grade.result c.if-is_of_grade.false (c.is_of_grade.ensures.1 graded)) c.loop-draw.invariant.1,
    )

use Rattle.line_steps.specs.Reasons.{StruckBy}
use Rattle.std.proofs.Common.{refl}
use Rattle.line_steps.specs.declared.grade.Grade.TheVariants.{Latin, Easy, Hard}
use Rattle.named_steps.proofs.Solutions.{graded_lowest}
use Rattle.fair_games.proofs.FairSteps.{graded_tested, is_graded}
use Rattle.fair_games.proofs.games.is_of_grade.Goals as goal

pub returns-in-Latin : goal.returns-in-Latin
returns-in-Latin g c =
    let p = g.P.Rules.puzzle c.args.puzzle.now in
    let Struck = StruckBy g.P.Rules.puzzle g.P.Steps.own c.args.puzzle.now in
    is_graded p Struck Latin c.args.grade c.in-Latin.is c.requires
    (λ follows. (λ _. graded_lowest p Struck follows, λ _. refl))

pub returns-in-Easy : goal.returns-in-Easy
returns-in-Easy g c =
    let p = g.P.Rules.puzzle c.args.puzzle.now in
    let Struck = StruckBy g.P.Rules.puzzle g.P.Steps.own c.args.puzzle.now in
    is_graded p Struck Easy c.args.grade c.in-Easy.is c.requires
    (λ follows. graded_tested p Struck Latin Easy c.follows.result refl follows c.follows.ensures)

pub returns-in-Hard : goal.returns-in-Hard
returns-in-Hard g c =
    let p = g.P.Rules.puzzle c.args.puzzle.now in
    let Struck = StruckBy g.P.Rules.puzzle g.P.Steps.own c.args.puzzle.now in
    is_graded p Struck Hard c.args.grade c.in-Hard.is c.requires
    (λ follows. graded_tested p Struck Easy Hard c.follows-in-Hard.result refl follows c.follows-in-Hard.ensures)

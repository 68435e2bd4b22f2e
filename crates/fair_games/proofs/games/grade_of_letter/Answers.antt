use Rattle.std.proofs.Common.{◌≡◌, Some}
use Rattle.std.proofs.lemmas.Bool.{both_ways}
use Rattle.fair_games.proofs.FairSteps.{no_grade}
use Rattle.fair_games.proofs.games.grade_of_letter.Goals as goal

pub returns : goal.returns
returns g c =
    no_grade (λ grade. g.P.FairGame.letter_of grade ≡ Some c.args.letter)
    (λ is. both_ways c.has_letter.result c.if-has_letter.false (c.has_letter.ensures.1 is))
    (λ is. both_ways c.has_letter-2.result c.if-has_letter-2.false (c.has_letter-2.ensures.1 is))
    (λ is. both_ways c.has_letter-3.result c.if-has_letter-3.false (c.has_letter-3.ensures.1 is))

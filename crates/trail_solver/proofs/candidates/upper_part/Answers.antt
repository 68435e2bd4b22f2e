use Rattle.std.proofs.Common.{arith}
use Rattle.trail_solver.proofs.SetPairs.{ones_of_none, ones_of_one}
use Rattle.trail_solver.proofs.candidates.upper_part.Goals as goal

pub returns-in-Some-clause-few : goal.returns-in-Some-clause-few
returns-in-Some-clause-few c =
    omega (arith, c.requires, ones_of_one c.one.result c.in-Some.greatest c.in-Some.ensures.bound c.one.ensures.members)

pub returns-in-None-clause-few : goal.returns-in-None-clause-few
returns-in-None-clause-few c = omega (arith, ones_of_none c.args.values c.in-None.ensures.value)

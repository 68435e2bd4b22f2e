-- The denial of an item by a game that has no way to deny it.
use Rattle.std.proofs.Common.{arith}
use Rattle.std.proofs.lemmas.Bool.Decides.{nat_tests}
use Rattle.std.proofs.Common.{◌≡◌}
use Rattle.trail_solver.specs.Candidates.{CandidatesValue}
use Rattle.trail_solver.specs.Puzzles.{Puzzle}
use Rattle.trail_solver.specs.Solutions.{Denies}

-- where nothing is denied, the puzzle without the item stands for the denied one, with all candidates
pub nothing_denied : (puzzle without denied : Puzzle) (c : CandidatesValue) → denied ≡ without → Denies puzzle without denied c c
nothing_denied puzzle without denied c same = grind (arith, nat_tests)

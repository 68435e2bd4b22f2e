-- A Towers puzzle without an item.
use Rattle.std.proofs.lemmas.Bool.Decides.{nat_tests}
use Rattle.std.proofs.Common.{◌≢◌, ℕ, ◌-◌, ◌*◌, ◌≤◌, not, arith, ◌==◌, slice_index}
use Rattle.latin_board.specs.Squares.{number_at}
use Rattle.trail_solver.specs.Candidates.{CandidatesValue}
use Rattle.trail_solver.specs.Solutions.{Denies}
use Rattle.line_steps.specs.Inner.Narrowing.{KeepsEach}
use Rattle.towers_game.specs.Towers.{TowersValue, IsTowers, cut_towers, towers_puzzle}
use Rattle.trail_solver.proofs.KeptItems.{entry-kept}
use Rattle.trail_solver.proofs.ItemsLost.{kept-before}
use Rattle.line_steps.proofs.GivenDenied.{given_denied}

-- dropping an item denies it, if its number, in case it is a given, went from its square's candidates
pub towers_denied : (v : TowersValue) (i : ℕ) (old new : CandidatesValue) → IsTowers v
    → KeepsEach (λ g. 4 * v.size ≤ i → number_at g (i - 4 * v.size) ≢ slice_index v.givens (i - 4 * v.size)) old new
    → Denies (towers_puzzle v) (towers_puzzle (cut_towers v (λ j. not (j == i)))) (towers_puzzle (cut_towers v (λ j. not (j == i)))) old new
towers_denied v i old new valid keeps = grind (arith, nat_tests, kept-before, entry-kept, given_denied)

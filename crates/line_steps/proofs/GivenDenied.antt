-- A given is denied: it goes from the candidates of its square.
use Rattle.std.proofs.lemmas.Bool.Decides.{nat_tests}
use Rattle.std.proofs.Common.{◌≡◌, ◌≢◌, ℕ, Bool, arith}
use Rattle.std.proofs.lemmas.Bool.{cases_eq}
use Rattle.latin_board.specs.Squares.{GridValue, number_at}
use Rattle.trail_solver.specs.Candidates.{CandidatesValue, IsEarlier}
use Rattle.trail_solver.specs.Pairs.{with_pair}
use Rattle.trail_solver.specs.Solutions.{Denies}
use Rattle.trail_solver.proofs.OneKept.{removed_earlier}
use Rattle.trail_solver.proofs.SearchSteps.{within_removed}
use Rattle.line_steps.specs.Inner.Narrowing.{KeepsEach}

-- candidates that lose a given keep their trail, with one pair after it
pub given_less : (old new : CandidatesValue) (cell given : ℕ) → new.size ≡ old.size → new.trail ≡ with_pair old.trail cell given
    → IsEarlier old new
given_less old new cell given size trail = removed_earlier old new cell given (record { size = size; trail = trail })

-- without the given, each grid with another number in the square is still within the candidates
pub given_gone : (old new : CandidatesValue) (cell given : ℕ) → new.size ≡ old.size → new.trail ≡ with_pair old.trail cell given
    → KeepsEach (λ g. number_at g cell ≢ given) old new
given_gone old new cell given size trail = λ g other within. within_removed old new cell given g (record { size = size; trail = trail }) within other

-- a grid that solves a puzzle but for one given solves the whole, or has another number there and isn't lost
pub given_denied : (w : ℕ) (a b : ℕ → ℕ) (m : GridValue → Bool) (k l : ℕ → Bool) (cell : ℕ) (old new : CandidatesValue)
    → ((c : ℕ) → c ≢ cell → b c ≡ a c) → KeepsEach (λ g. number_at g cell ≢ a cell) old new
    → Denies (record { size = w; given = a; meets = m; clued = k }) (record { size = w; given = b; meets = m; clued = l })
    (record { size = w; given = b; meets = m; clued = l }) old new
given_denied w a b m k l cell old new rest keeps = grind (arith, nat_tests, cases_eq)

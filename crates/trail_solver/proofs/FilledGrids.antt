-- The grid of settled candidates, and the solutions among candidates.
use Rattle.std.proofs.lemmas.Bool.Decides.{nat_tests}
use Rattle.std.proofs.Common.{◌≡◌, ℕ, ◌+◌, ◌*◌, ◌<◌, length, set, sym, ◌∙◌, subst, arith, length-set}
use Rattle.std.proofs.lemmas.List.{get_or-set_same, get_or-set_other, get_or_default}
use Rattle.latin_board.specs.Squares.{GridValue, number_at}
use Rattle.latin_board.proofs.LatinLines.{latin_full}
use Rattle.latin_board.proofs.Numbers.{number_within, same_numbers}
use Rattle.trail_solver.specs.Pairs.{IsPair}
use Rattle.trail_solver.specs.Candidates.{CandidatesValue, IsCandidates, IsOnly, IsWithin}
use Rattle.trail_solver.specs.Inner.Squares.{IsFilled}
use Rattle.trail_solver.specs.Puzzles.{Puzzle, Solves}

-- the grid has in its first k squares the only candidate of each
pub record FilledSoFar (c : CandidatesValue) (g : GridValue) (k : ℕ) : Type 0 where
  pub same_size : g.size ≡ c.size
  pub count : length g.numbers ≡ c.size * c.size
  pub each : (cell : ℕ) → cell < k → IsOnly c cell (number_at g cell)

pub FilledSoFar-more : (c : CandidatesValue) (g new : GridValue) (k value : ℕ) → FilledSoFar c g k → k < c.size * c.size → IsOnly c k value
    → new.size ≡ g.size → new.numbers ≡ set g.numbers k value → FilledSoFar c new (k + 1)
FilledSoFar-more c g new k value h inside only size numbers =
    grind (arith, nat_tests, length-set, get_or-set_same, get_or-set_other)

pub FilledSoFar-all : (c : CandidatesValue) (g : GridValue) (k : ℕ) → IsCandidates c → FilledSoFar c g k → k ≡ c.size * c.size
    → IsFilled c g
FilledSoFar-all c g k valid h e = grind (arith, nat_tests, get_or_default)

-- the numbers of a solution are values of the size
pub solution_pair : (p : Puzzle) (g : GridValue) (w cell : ℕ) → Solves p g → w ≡ p.size → cell < w * w → IsPair w cell (number_at g cell)
solution_pair p g w cell s e inside =
    let here : cell < g.size * g.size = subst (λ (n : ℕ). cell < n * n) (e ∙ sym s.same_size) inside in
    record {
      inside = inside;
      low = (latin_full g s.latin).each cell here;
      high = omega (arith, number_within g s.is_grid cell here, e, s.same_size);
    }

-- where each square is settled, a solution is the grid of the candidates
pub only_filled : (p : Puzzle) (c : CandidatesValue) (g h : GridValue) → c.size ≡ p.size → IsFilled c g → Solves p h → IsWithin c h → h ≡ g
only_filled p c g h size filled s within =
    same_numbers h g s.is_grid filled.is_grid (s.same_size ∙ sym size ∙ sym filled.same_size) (λ cell inside.
    let here : cell < c.size * c.size = subst (λ (n : ℕ). cell < n * n) (s.same_size ∙ sym size) inside in
    let pair = solution_pair p h c.size cell s size here in
    (filled.each cell here).alone (number_at h cell) pair.low pair.high (within.each cell here))

-- the grid of settled candidates is within them
pub filled_within : (c : CandidatesValue) (g : GridValue) → IsFilled c g → IsWithin c g
filled_within c g filled = record { each = λ cell inside. (filled.each cell inside).left }

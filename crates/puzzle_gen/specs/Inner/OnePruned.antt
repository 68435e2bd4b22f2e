-- That there is one pruned puzzle, and what follows of its being pruned.
use Rattle.std.specs.Prelude.{◌≡◌, ℕ, ◌<◌, List, IsTrue}
use Rattle.latin_board.specs.Squares.{GridValue}
use Rattle.trail_solver.specs.Solutions.{HasSeveralSolutions, IsOnlySolution}
use Rattle.trail_solver.specs.declared.rules.Rules.{Ghosts}
use Rattle.needed_items.specs.Needed.{all_but}
use Rattle.puzzle_gen.specs.Pruning.{IsPruned}

-- the one pruned puzzle, and what follows of that: the square is its only solution, and it needs each of its items
pub record IsOnePruned {P : Type 0} (f : Ghosts P) (g : GridValue) (order : List ℕ) (p : P) : Type 0 where
  pub pruned : IsPruned f g order p
  pub just_one : (other : P) → IsPruned f g order other → other ≡ p
  pub valid : f.valid p
  pub size : (f.puzzle p).size ≡ g.size
  pub only_solution : IsOnlySolution (f.puzzle p) g
  pub all_needed : (i : ℕ) → i < f.items_of g.size → IsTrue (f.has p i)
      → HasSeveralSolutions (f.puzzle (f.cut p (all_but i)))

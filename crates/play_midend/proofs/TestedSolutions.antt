-- The tests of a grid that a move fills in, and what they stand for.
use Rattle.std.proofs.Common.{◌≡◌, ℕ, ◌*◌, ◌≤◌, true, nat_le, length, Decides, refl, arith}
use Rattle.std.specs.List.{list_all}
use Rattle.std.proofs.lemmas.Bool.{leb-true, le-leb}
use Rattle.std.proofs.lemmas.Bool.Decides.{Decides-and, Decides-by_and, Decides-eqb, Decides-like}
use Rattle.latin_board.specs.Squares.{GridValue, IsGrid}
use Rattle.trail_solver.proofs.SolutionTests.{Decides-solves_test}
use Rattle.play_midend.specs.Steps.{grid_test}
use Rattle.play_midend.specs.Laws.{SolutionsAreFilledIn}

Decides-at_most : (a b : ℕ) → Decides (nat_le a b) (a ≤ b)
Decides-at_most a b = (leb-true a b, le-leb a b)

Decides-grid_test : (g : GridValue) → Decides (grid_test g) (IsGrid g)
unfolding grid_test
Decides-grid_test g =
    let size = Decides-and _ _ (Decides-at_most 3 g.size) (Decides-at_most g.size 9) in
    let each = Decides-by_and (λ n. nat_le n g.size) (λ n. n ≤ g.size) (list_all (λ n. nat_le n g.size)) (λ n. Decides-at_most n g.size)
    refl (λ n ns. refl) g.numbers in
    Decides-like (grid_test g)
    (λ h. record { smallest = h.0.0.0; largest = h.0.0.1; count = h.0.1; within = h.1 })
    (λ grid. (((grid.smallest, grid.largest), grid.count), grid.within))
    (Decides-and _ _ (Decides-and _ _ size (Decides-eqb (length g.numbers) (g.size * g.size))) each)

-- a grid can be filled in just if it solves the puzzle, whatever the board shows
pub solutions_are_filled_in : SolutionsAreFilledIn
solutions_are_filled_in p b g = (
  λ none.
      let grid = (Decides-grid_test g).0 (grind arith) in
      (Decides-solves_test p g grid).0 (grind arith),
  λ solves.
      let grid = solves.is_grid in
      rw ((Decides-solves_test p g grid).1 solves, (Decides-grid_test g).1 grid) refl,
)

-- a grid passes the test for grids
pub grid_tested : (g : GridValue) → IsGrid g → grid_test g ≡ true
grid_tested g grid = (Decides-grid_test g).1 grid

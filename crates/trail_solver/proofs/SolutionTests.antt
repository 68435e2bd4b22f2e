-- The tests that compute, and the rules that they stand for.
use Rattle.std.proofs.lemmas.Bool.Decides.{nat_tests}
use Rattle.std.proofs.Common.{◌≡◌, ℕ, ◌*◌, ◌<◌, eqb, Bool, true, ◌&&◌, ◌||◌, Decides, false, sym, ap, ◌∙◌, inl, inr, eq-eqb, eqb-true, arith}
use Rattle.std.proofs.lemmas.Bool.{cases_eq, or_cases, or_left, or_right}
use Rattle.std.proofs.lemmas.Bool.Decides.{Decides-and, Decides-eqb, Decides-like, same_from_decides}
use Rattle.latin_board.specs.Squares.{GridValue, IsGrid, number_at, latin_test}
use Rattle.latin_board.proofs.LatinTest.{latin_test_decides, all_in_range}
use Rattle.trail_solver.specs.Puzzles.{Puzzle, Solves, HoldsGivens, givens_test, solves_test}

Decides-givens_test : (p : Puzzle) (g : GridValue) → Decides (givens_test p g) (HoldsGivens p g)
Decides-givens_test p g =
    let each : (cell : ℕ) → Decides (eqb (p.given cell) 0 || eqb (number_at g cell) (p.given cell)) (0 < p.given cell → number_at g cell ≡ p.given cell) = λ cell. (
      λ h some. elim (or_cases (eqb (p.given cell) 0) (eqb (number_at g cell) (p.given cell)) h) [
        | inl none ↦ absurd (let e = eqb-true (p.given cell) 0 none in omega arith)
        | inr is ↦ eqb-true (number_at g cell) (p.given cell) is
      ],
      λ h. elim (cases_eq (p.given cell) 0) [
        | inl none ↦ or_left (eqb (p.given cell) 0) (eqb (number_at g cell) (p.given cell)) (eq-eqb (p.given cell) 0 none)
        | inr some ↦ or_right (eqb (p.given cell) 0) (eqb (number_at g cell) (p.given cell)) (eq-eqb (number_at g cell) (p.given cell) (h (omega arith)))
      ],
    ) in
    Decides-like (givens_test p g)
    (λ h cell inside. h cell (omega arith) (omega arith))
    (λ h cell low high. h cell (omega arith))
    (all_in_range (λ cell. eqb (p.given cell) 0 || eqb (number_at g cell) (p.given cell)) (λ cell. 0 < p.given cell → number_at g cell ≡ p.given cell) each 0 (p.size * p.size))

-- the test of a solution says whether a grid is one
pub Decides-solves_test : (p : Puzzle) (g : GridValue) → IsGrid g → Decides (solves_test p g) (Solves p g)
Decides-solves_test p g grid =
    Decides-like (solves_test p g)
    (λ h. record { is_grid = grid; same_size = h.0.0.0; latin = h.0.0.1; givens = h.0.1; clues = h.1 })
    (λ s. (((s.same_size, s.latin), s.givens), s.clues))
    (Decides-and ((eqb g.size p.size && latin_test g) && givens_test p g) (p.meets g)
    (Decides-and (eqb g.size p.size && latin_test g) (givens_test p g)
    (Decides-and (eqb g.size p.size) (latin_test g) (Decides-eqb g.size p.size) (latin_test_decides g))
    (Decides-givens_test p g))
    (λ h. h, λ h. h))

-- an answer of two tests is that of a solution, where the sizes are equal and the grid is Latin
pub tested_in_two : (p : Puzzle) (g : GridValue) (held b : Bool) → b ≡ (held && p.meets g) → g.size ≡ p.size → latin_test g ≡ true
    → Decides held (HoldsGivens p g) → b ≡ solves_test p g
tested_in_two p g held b both size latin givens = grind (arith, nat_tests, same_from_decides, Decides-givens_test)

pub tested_in_one : (p : Puzzle) (g : GridValue) (held : Bool) → held ≡ false → g.size ≡ p.size → latin_test g ≡ true
    → Decides held (HoldsGivens p g) → held ≡ solves_test p g
tested_in_one p g held refused size latin givens =
    tested_in_two p g held held (refused ∙ ap (λ (b : Bool). b && p.meets g) (sym refused)) size latin givens

-- The test of Latin squares decides what a Latin square is.
use Rattle.std.proofs.Common.{◌≡◌, ℕ, zero, suc, ◌+◌, ◌<◌, ◌≤◌, ◌↔◌, Bool, true, List, eqb, inl, inr, refl, arith}
use Rattle.std.specs.Bool.{Decides}
use Rattle.std.specs.List.{range_with_len, list_all}
use Rattle.std.proofs.lemmas.Bool.{cases_eq, and_parts, and_from}
use Rattle.std.proofs.lemmas.Bool.Decides.{Decides-like, Decides-and, Decides-eqb}
use Rattle.latin_board.specs.Squares.{GridValue, IsLatin, HasEachOnce, each_once_test, latin_test, row_of, column_of, times_in}

-- a test of each number of a range decides whether P holds of all of them
pub all_in_range : (p : ℕ → Bool) (P : ℕ → Type 0) → ((k : ℕ) → Decides (p k) (P k)) → (a n : ℕ)
    → Decides (list_all p (range_with_len a n)) ((k : ℕ) → a ≤ k → k < a + n → P k)
all_in_range p P each a zero = (λ e k low high. absurd (omega arith), λ all. refl)
all_in_range p P each a (suc n) =
    let rest = all_in_range p P each (a + 1) n in (
      λ e k low high.
          let both = and_parts (p a) (list_all p (range_with_len (a + 1) n)) e in
          elim (cases_eq a k) [
            | inl first ↦ rw (← first) ((each a).0 both.0)
            | inr later ↦ rest.0 both.1 k (omega arith) (omega arith)
          ],
      λ all. and_from (p a) (list_all p (range_with_len (a + 1) n)) ((each a).1 (all a (omega arith) (omega arith)))
          (rest.1 (λ k low high. all k (omega arith) (omega arith))),
    )

pub each_once_test_decides : (w : ℕ) (line : List ℕ) → (each_once_test w line ≡ true) ↔ HasEachOnce w line
each_once_test_decides w line =
    Decides-like (each_once_test w line) (λ all v low high. all v low (omega arith)) (λ once v low high. once v low (omega arith))
    (all_in_range (λ v. eqb (times_in v line) 1) (λ v. times_in v line ≡ 1) (λ v. Decides-eqb (times_in v line) 1) 1 w)

-- the test answers whether a grid is a Latin square
pub latin_test_decides : (g : GridValue) → (latin_test g ≡ true) ↔ IsLatin g
latin_test_decides g =
    Decides-like (latin_test g)
    (λ all. record { rows = λ r below. all.0 r (omega arith) (omega arith); columns = λ c below. all.1 c (omega arith) (omega arith) })
    (λ latin. (λ r low below. latin.rows r (omega arith), λ c low below. latin.columns c (omega arith)))
    (Decides-and _ _
    (all_in_range (λ r. each_once_test g.size (row_of g r)) (λ r. HasEachOnce g.size (row_of g r)) (λ r. each_once_test_decides g.size (row_of g r)) 0 g.size)
    (all_in_range (λ c. each_once_test g.size (column_of g c)) (λ c. HasEachOnce g.size (column_of g c)) (λ c. each_once_test_decides g.size (column_of g c)) 0 g.size))

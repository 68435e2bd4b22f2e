-- The steps of a listing: what each does to the solutions that are to be listed.
use Rattle.std.proofs.lemmas.Bool.Decides.{nat_tests}
use Rattle.std.proofs.Common.{◌≡◌, ℕ, ◌+◌, ◌-◌, ◌*◌, ◌<◌, false, List, [], ◌∷◌, ◌++◌, length, sym, ◌∙◌, inl, inr, ⊎_elim, arith}
use Rattle.std.proofs.lemmas.Bool.{cases_order}
use Rattle.latin_board.specs.Squares.{GridValue, number_at}
use Rattle.trail_solver.specs.Candidates.{CandidatesValue, may_be}
use Rattle.trail_solver.specs.Inner.Squares.{IsFilled, IsFirstOpen}
use Rattle.trail_solver.specs.Puzzles.{Puzzle, Solves}
use Rattle.trail_solver.specs.Inner.Among.{IsAmong, IsAmongAt, IsAmongBelow}
use Rattle.trail_solver.specs.Listings.{IsBelow}
use Rattle.trail_solver.specs.Inner.Listed.{Lists}
use Rattle.trail_solver.proofs.AmongCandidates.{none_at_gone, none_where_filled}
use Rattle.trail_solver.proofs.FilledGrids.{solution_pair, only_filled, filled_within}
use Rattle.trail_solver.proofs.ListedSolutions.{AreFirst-none, AreFirst-full, lists_nothing, lists_same, lists_then}

-- where there is no grid of the kind, the list stays
pub none_lists : (A : GridValue → Type 0) (limit : ℕ) (xs : List GridValue) → ((h : GridValue) → A h → ⊥) → Lists A limit xs xs
none_lists A limit xs n = lists_nothing A limit xs (AreFirst-none A (limit - length xs) n)

-- where there is just one and room for it, it comes to the end of the list
pub only_lists : (A : GridValue → Type 0) (g : GridValue) (limit : ℕ) (xs ys : List GridValue) → A g → ((h : GridValue) → A h → h ≡ g)
    → length xs < limit → ys ≡ xs ++ g ∷ [] → Lists A limit xs ys
only_lists A g limit xs ys a only room e = grind (arith, nat_tests)

-- where each square is settled, the grid of the candidates is listed if it is a solution
pub leaf_lists : (p : Puzzle) (c : CandidatesValue) (g : GridValue) (limit : ℕ) (xs ys : List GridValue) → c.size ≡ p.size → IsFilled c g
    → Solves p g → length xs < limit → ys ≡ xs ++ g ∷ [] → Lists (IsAmong p c) limit xs ys
leaf_lists p c g limit xs ys size filled s room e =
    only_lists (IsAmong p c) g limit xs ys (s, filled_within c g filled) (λ h m. only_filled p c g h size filled m.0 m.1) room e

-- where each square is settled, nothing is listed if the grid of the candidates is no solution
pub leaf_lists_none : (p : Puzzle) (c : CandidatesValue) (g : GridValue) (limit : ℕ) (xs : List GridValue) → c.size ≡ p.size → IsFilled c g
    → (Solves p g → ⊥) → Lists (IsAmong p c) limit xs xs
leaf_lists_none p c g limit xs size filled n =
    none_lists (IsAmong p c) limit xs (none_where_filled p c g size filled n)

-- of a value that is no candidate of the cell nothing is listed
pub guess_lists_none : (p : Puzzle) (c : CandidatesValue) (cell value limit : ℕ) (xs : List GridValue) → cell < c.size * c.size
    → may_be c cell value ≡ false → Lists (IsAmongAt p c cell value) limit xs xs
guess_lists_none p c cell value limit xs inside gone = grind (arith, nat_tests, lists_nothing, none_at_gone)

-- where the list is full, nothing is listed
pub full_lists : (A : GridValue → Type 0) (limit : ℕ) (xs : List GridValue) → length xs ≡ limit → Lists A limit xs xs
full_lists A limit xs full = lists_nothing A limit xs (AreFirst-full A (limit - length xs) (omega arith))

-- ---- the values of the first open square, from 1 up

-- before the first value nothing is listed
pub value_lists_none : (p : Puzzle) (c : CandidatesValue) (cell limit : ℕ) (xs : List GridValue) → c.size ≡ p.size → cell < c.size * c.size
    → Lists (IsAmongBelow p c cell 1) limit xs xs
value_lists_none p c cell limit xs size inside = grind (arith, nat_tests, lists_nothing, solution_pair)

-- of two solutions, the one with the smaller number in the first open square is below the other
below_at_first : (p : Puzzle) (c : CandidatesValue) (cell v : ℕ) (f g : GridValue) → c.size ≡ p.size → IsFirstOpen c cell
    → IsAmongBelow p c cell v f → IsAmongAt p c cell v g → IsBelow f g
below_at_first p c cell v f g size first a b = record {
  place = cell;
  same = λ k less.
      let only = (first.before k less).1 in
      let inside : k < c.size * c.size = omega (arith, first.is_open.inside) in
      let in_f = solution_pair p f c.size k a.0 size inside in
      let in_g = solution_pair p g c.size k b.0 size inside in
      only.alone (number_at f k) in_f.low in_f.high (a.1.0.each k inside) ∙ sym (only.alone (number_at g k) in_g.low in_g.high (b.1.0.each k inside));
  less = omega (arith, a.1.1, b.1.1);
}

-- what is listed of the values below v, and then of v, is listed of the values below v + 1
pub value_lists_more : (p : Puzzle) (c : CandidatesValue) (cell v limit : ℕ) (xs ys zs : List GridValue) → c.size ≡ p.size
    → IsFirstOpen c cell → Lists (IsAmongBelow p c cell v) limit xs ys → Lists (IsAmongAt p c cell v) limit ys zs
    → Lists (IsAmongBelow p c cell (v + 1)) limit xs zs
value_lists_more p c cell v limit xs ys zs size first =
    lists_then (IsAmongBelow p c cell v) (IsAmongAt p c cell v) (IsAmongBelow p c cell (v + 1)) limit xs ys zs
    (λ h s. (s.0, (s.1.0, omega (arith, s.1.1))))
    (λ h s. (s.0, (s.1.0, omega (arith, s.1.1))))
    (λ h s. ⊎_elim (λ e. inr (s.0, (s.1.0, e))) (λ o. ⊎_elim (λ l. inl (s.0, (s.1.0, l))) (λ l. absurd (omega (arith, s.1.1))) o) (cases_order (number_at h cell) v))
    (λ f g a b. below_at_first p c cell v f g size first a b)

-- what is listed of all values of the size is listed of all solutions among the candidates
pub value_lists_all : (p : Puzzle) (c : CandidatesValue) (cell v limit : ℕ) (xs ys : List GridValue) → c.size ≡ p.size
    → cell < c.size * c.size → c.size < v → Lists (IsAmongBelow p c cell v) limit xs ys → Lists (IsAmong p c) limit xs ys
value_lists_all p c cell v limit xs ys size inside all = grind (arith, nat_tests, lists_same, solution_pair)

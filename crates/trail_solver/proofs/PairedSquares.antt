-- The pairs of a pairing as squares and values, and what a Latin square gives each left.
use Rattle.std.proofs.lemmas.Bool.Decides.{nat_tests}
use Rattle.std.proofs.Common.{◌≡◌, ℕ, ◌+◌, ◌-◌, ◌*◌, ◌<◌, ◌≤◌, true, inl, inr, sym, ap, ◌∙◌, arith}
use Rattle.std.proofs.lemmas.Bool.{cases_eq, cases_lt}
use Rattle.latin_board.specs.Squares.{GridValue, IsGrid, IsLatin, number_at}
use Rattle.latin_board.specs.Lines.{line_cell}
use Rattle.latin_board.proofs.LatinLines.{line_cell-row, line_cell-column, line_cell_inside, line_differs, line_full, value_at}
use Rattle.number_sets.specs.Sets.{has_number}
use Rattle.trail_solver.specs.Pairs.{IsPair}
use Rattle.trail_solver.specs.Candidates.{CandidatesValue, IsSetOf, may_be}
use Rattle.trail_solver.specs.Inner.Pairings.{IsPairing, pair_cell, pair_value}
use Rattle.trail_solver.specs.declared.pairing.Pairing.{Pairing}
use Rattle.trail_solver.specs.declared.pairing.Pairing.TheVariants.{Line, Value}

-- the pair of a left and a right is one of the size
pub pair_is_one : (w : ℕ) (pairing : Pairing) (left right : ℕ) → IsPairing w pairing → left < w → right < w
    → IsPair w (pair_cell w pairing left right) (pair_value pairing right)
pair_is_one w pairing left right is first second = grind (arith, nat_tests, line_cell_inside)

-- the side of a line's place has the values that may stand there, each less 1
pub place_side : (c : CandidatesValue) (line left set lowered right : ℕ) → line < 2 * c.size → left < c.size → right < c.size
    → IsSetOf c (line_cell c.size line left) set → ((n : ℕ) → has_number lowered n ≡ has_number set (n + 1))
    → may_be c (line_cell c.size line left) (right + 1) ≡ true → has_number lowered right ≡ true
place_side c line left set lowered right below first second of is may =
    is right ∙ (of (right + 1)).1 (record { inside = line_cell_inside c.size line left below first; low = omega arith; high = omega arith }, may)

-- ---- what a Latin square gives each left

-- f gives each left the right that it has in the grid: one of its own, and no other
pub record IsMatched (w : ℕ) (g : GridValue) (pairing : Pairing) (f : ℕ → ℕ) : Type 0 where
  pub below : (left : ℕ) → left < w → f left < w
  pub here : (left : ℕ) → left < w → number_at g (pair_cell w pairing left (f left)) ≡ pair_value pairing (f left)
  pub apart : (i j : ℕ) → i < w → j < w → f i ≡ f j → i ≡ j
  pub only : (left right : ℕ) → left < w → right < w → number_at g (pair_cell w pairing left right) ≡ pair_value pairing right
      → right ≡ f left

line_number : (g : GridValue) → IsGrid g → IsLatin g → (line left : ℕ) → line < 2 * g.size → left < g.size
    → (1 ≤ number_at g (line_cell g.size line left)) × (number_at g (line_cell g.size line left) ≤ g.size)
line_number g valid latin line left below first =
    (line_full g latin line left below first, valid.within (line_cell g.size line left) 0 (omega (arith, valid.count, line_cell_inside g.size line left below first)))

line_matched : (g : GridValue) → IsGrid g → IsLatin g → (line : ℕ) → line < 2 * g.size
    → IsMatched g.size g (Line line) (λ left. number_at g (line_cell g.size line left) - 1)
line_matched g valid latin line below = grind (arith, nat_tests, line_number, line_differs)

-- the column where a row has the value
column_at : (g : GridValue) → IsLatin g → (value : ℕ) → 1 ≤ value → value ≤ g.size → (row : ℕ)
    → (k : ℕ) × (row < g.size → (k < g.size) × (number_at g (line_cell g.size row k) ≡ value))
column_at g latin value low high row =
    elim (cases_lt row g.size) [
      | inl inside ↦
          let (column, within, here) = value_at g latin row value (omega arith) low high in
          (column, λ _. (within, here))
      | inr outside ↦ (0, λ inside. absurd (omega arith))
    ]

column_differs : (g : GridValue) → IsGrid g → IsLatin g → (value i j k : ℕ) → i < g.size → j < g.size → k < g.size
    → number_at g (line_cell g.size i k) ≡ value → number_at g (line_cell g.size j k) ≡ value → i ≡ j
column_differs g valid latin value i j k first second inside at_i at_j =
    elim (cases_eq i j) [
      | inl same ↦ same
      | inr other ↦
          let cell_i : line_cell g.size (g.size + k) i ≡ line_cell g.size i k = line_cell-column g.size k i ∙ sym (line_cell-row g.size i k first) in
          let cell_j : line_cell g.size (g.size + k) j ≡ line_cell g.size j k = line_cell-column g.size k j ∙ sym (line_cell-row g.size j k second) in
          absurd (line_differs g valid latin (g.size + k) i j (omega arith) first second other
          (ap (number_at g) cell_i ∙ at_i ∙ sym at_j ∙ ap (number_at g) (sym cell_j)))
    ]

value_matched : (g : GridValue) → IsGrid g → (latin : IsLatin g) → (value : ℕ) → (low : 1 ≤ value) → (high : value ≤ g.size)
    → IsMatched g.size g (Value value) (λ row. (column_at g latin value low high row).0)
value_matched g valid latin value low high = grind (arith, nat_tests, column_at, column_differs, line_differs)

matched_here : (g : GridValue) → IsGrid g → IsLatin g → (pairing : Pairing) → IsPairing g.size pairing
    → (f : ℕ → ℕ) × IsMatched g.size g pairing f
matched_here g valid latin (Line line) is = (λ left. number_at g (line_cell g.size line left) - 1, line_matched g valid latin line is)
matched_here g valid latin (Value value) is =
    (λ row. (column_at g latin value is.0 is.1 row).0, value_matched g valid latin value is.0 is.1)

pub matched : (g : GridValue) (w : ℕ) → g.size ≡ w → IsGrid g → IsLatin g → (pairing : Pairing) → IsPairing w pairing
    → (f : ℕ → ℕ) × IsMatched w g pairing f
matched g w size valid latin pairing = grind (arith, nat_tests, matched_here)

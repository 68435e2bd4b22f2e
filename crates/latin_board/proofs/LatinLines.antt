-- Latin squares by their lines, the rows and columns as one family.
use Rattle.std.proofs.lemmas.Bool.Decides.{nat_tests}
use Rattle.std.proofs.Common.{◌≡◌, ◌≢◌, ℕ, ◌+◌, ◌-◌, ◌*◌, ◌/◌, ◌%◌, ◌<◌, ◌≤◌, List, length, get_or, inl, inr, refl, sym, ◌∙◌, arith}
use Rattle.std.proofs.lemmas.Bool.{cases_lt, cases_order, lt-ltb, le-ltb}
use Rattle.std.proofs.lemmas.List.FromFn.{length-map-range_with_len, get_or-map-range_with_len}
use Rattle.std.proofs.lemmas.Map.Steps.{le-length_from_below}
use Rattle.std.proofs.lemmas.Nat.{mul-add-lt, div-add-mod', div_below, mod_below}
use Rattle.latin_board.specs.Squares.{GridValue, IsGrid, IsFull, IsLatin, HasEachOnce, number_at, row_of, column_of, times_in}
use Rattle.latin_board.specs.Lines.{line_cell, line_of, ArePeers, IsOnLine}
use Rattle.latin_board.proofs.Counts.{twice_at_least, place_of_counted, among_at}

-- ---- the squares of a line

-- a grid that has a square has a width
pub some_width : (w cell : ℕ) → cell < w * w → 0 < w
some_width w cell inside = grind (arith, nat_tests)

-- the squares of a row
pub line_cell-row : (w row k : ℕ) → row < w → line_cell w row k ≡ row * w + k
line_cell-row w row k low = rw (lt-ltb row w low) refl

-- the squares of a column
pub line_cell-column : (w column k : ℕ) → line_cell w (w + column) k ≡ k * w + column
line_cell-column w column k = grind (arith, nat_tests)

-- a square of a line is one of the grid
pub line_cell_inside : (w line k : ℕ) → line < 2 * w → k < w → line_cell w line k < w * w
line_cell_inside w line k below within =
    elim (cases_lt line w) [
      | inl row ↦ rw (lt-ltb line w row) (mul-add-lt line w k w row within)
      | inr column ↦ rw (le-ltb line w column) (mul-add-lt k w (line - w) w within (omega arith))
    ]

-- the line of a row's number is that row
pub line_of-row : (g : GridValue) (row : ℕ) → row < g.size → line_of g row ≡ row_of g row
line_of-row g row low = rw (lt-ltb row g.size low) refl

-- the line of a column's number, which comes after the rows, is that column
pub line_of-column : (g : GridValue) (column : ℕ) → line_of g (g.size + column) ≡ column_of g column
line_of-column g column = grind (arith, nat_tests)

-- a line is as long as the grid is wide
pub length-line_of : (g : GridValue) (line : ℕ) → length (line_of g line) ≡ g.size
length-line_of g line = length-map-range_with_len (λ k. number_at g (line_cell g.size line k)) 0 g.size

-- an entry of a line is the number in that square
pub get_or-line_of : (g : GridValue) (line k : ℕ) → k < g.size → get_or (line_of g line) k 0 ≡ number_at g (line_cell g.size line k)
get_or-line_of g line k within =
    get_or-map-range_with_len (λ k. number_at g (line_cell g.size line k)) 0 g.size k k 0 within (omega arith)

-- a square stands in the line of its row, at the place of its column
pub line_cell_of_row : (w cell : ℕ) → cell < w * w → line_cell w (cell / w) (cell % w) ≡ cell
line_cell_of_row w cell inside =
    line_cell-row w (cell / w) (cell % w) (div_below cell w w (some_width w cell inside) inside) ∙ div-add-mod' cell w

-- ---- a Latin square by its lines

-- each line of a Latin square has each value once
pub latin_line : (g : GridValue) → IsLatin g → (line : ℕ) → line < 2 * g.size → HasEachOnce g.size (line_of g line)
latin_line g latin line below =
    elim (cases_lt line g.size) [
      | inl row ↦ rw (line_of-row g line row) (latin.rows line row)
      | inr column ↦
          let split : line ≡ g.size + (line - g.size) = omega arith in
          rw (split, line_of-column g (line - g.size)) (latin.columns (line - g.size) (omega arith))
    ]

-- a grid whose lines have each value once is a Latin square
pub latin_from_lines : (g : GridValue) → ((line : ℕ) → line < 2 * g.size → HasEachOnce g.size (line_of g line)) → IsLatin g
latin_from_lines g lines = record {
  rows = λ row below. rw (← line_of-row g row below) (lines row (omega arith));
  columns = λ column below. rw (← line_of-column g column) (lines (g.size + column) (omega arith));
}

-- a number that stands once in a line stands in one of its squares
pub counted_at : (g : GridValue) (line v : ℕ) → 1 ≤ times_in v (line_of g line) → (k : ℕ) × (k < g.size) × (number_at g (line_cell g.size line k) ≡ v)
counted_at g line v counted =
    let (k, inside, here) = place_of_counted v (line_of g line) counted in
    let within : k < g.size = omega (arith, length-line_of g line) in
    (k, within, sym (get_or-line_of g line k within) ∙ here)

-- each number from 1 to the width stands somewhere in each line
pub value_at : (g : GridValue) → IsLatin g → (line v : ℕ) → line < 2 * g.size → 1 ≤ v → v ≤ g.size
    → (k : ℕ) × (k < g.size) × (number_at g (line_cell g.size line k) ≡ v)
value_at g latin line v below low high = counted_at g line v (omega (arith, latin_line g latin line below v low high))

-- ---- a Latin square is full

-- in w places that have each number from 1 to w once, no place is blank
no_blank : (w : ℕ) (line : List ℕ) → length line ≡ w → HasEachOnce w line → (k : ℕ) → k < w → get_or line k 0 ≡ 0 → ⊥
no_blank w line len once k within blank =
    let all : w + 1 ≤ length line = le-length_from_below line (w + 1) (λ v below. elim (cases_lt v 1) [
      | inl low ↦ among_at v line k (omega arith) (omega arith)
      | inr high ↦
          let (place, inside, here) = place_of_counted v line (omega (arith, once v high (omega arith))) in
          among_at v line place inside here
    ]) in
    omega arith

-- no square of a Latin square's line is blank
pub line_full : (g : GridValue) → IsLatin g → (line k : ℕ) → line < 2 * g.size → k < g.size → 0 < number_at g (line_cell g.size line k)
line_full g latin line k below within =
    elim (cases_lt 0 (number_at g (line_cell g.size line k))) [
      | inl filled ↦ filled
      | inr blank ↦ absurd (no_blank g.size (line_of g line) (length-line_of g line) (latin_line g latin line below) k within
          (get_or-line_of g line k within ∙ omega arith))
    ]

-- a Latin square is full
pub latin_full : (g : GridValue) → IsLatin g → IsFull g
latin_full g latin = record {
  each = λ cell inside.
      let some = some_width g.size cell inside in
      let row = div_below cell g.size g.size some inside in
      let full = line_full g latin (cell / g.size) (cell % g.size) (omega arith) (mod_below cell g.size some) in
      rw (line_cell_of_row g.size cell inside) at full;
}

-- ---- two squares of a line differ

-- two squares of a line of a Latin square differ
pub line_differs : (g : GridValue) → IsGrid g → IsLatin g → (line i j : ℕ) → line < 2 * g.size → i < g.size → j < g.size → i ≢ j
    → number_at g (line_cell g.size line i) ≢ number_at g (line_cell g.size line j)
line_differs g valid latin line i j below first second apart = λ same.
    let v = number_at g (line_cell g.size line i) in
    let low : 1 ≤ v = line_full g latin line i below first in
    let high : v ≤ g.size = valid.within (line_cell g.size line i) 0 (omega (arith, valid.count, line_cell_inside g.size line i below first)) in
    let once = latin_line g latin line below v low high in
    let at_i = get_or-line_of g line i first in
    let at_j : get_or (line_of g line) j 0 ≡ v = get_or-line_of g line j second ∙ sym same in
    let len = length-line_of g line in
    elim (cases_order i j) [
      | inl equal ↦ absurd (apart equal)
      | inr order ↦ elim order [
        | inl before ↦ omega (arith, twice_at_least v (line_of g line) i j before (omega arith) at_i at_j)
        | inr after ↦ omega (arith, twice_at_least v (line_of g line) j i after (omega arith) at_j at_i)
      ]
    ]

-- ---- squares that share a line

peers_on_row : (w a b : ℕ) → 0 < w → ArePeers w a b → a / w ≡ b / w → IsOnLine w a b (a / w) (a % w) (b % w)
peers_on_row w a b some peers rows = grind (arith, nat_tests, div_below, div-add-mod', mod_below, line_cell-row)

peers_on_column : (w a b : ℕ) → 0 < w → ArePeers w a b → a % w ≡ b % w → IsOnLine w a b (w + a % w) (a / w) (b / w)
peers_on_column w a b some peers columns =
    grind (arith, nat_tests, mod_below, div-add-mod', div_below, line_cell-column)

-- two peers stand on a common line
pub peers_on_line : (w a b : ℕ) → ArePeers w a b → (line : ℕ) × (i : ℕ) × (j : ℕ) × IsOnLine w a b line i j
peers_on_line w a b peers =
    let some = some_width w a peers.first in
    elim peers.shared [
      | inl rows ↦ (a / w, a % w, b % w, peers_on_row w a b some peers rows)
      | inr columns ↦ (w + a % w, a / w, b / w, peers_on_column w a b some peers columns)
    ]

-- two squares of a Latin square that share a line differ
pub peers_differ : (g : GridValue) → IsGrid g → IsLatin g → (a b : ℕ) → ArePeers g.size a b → number_at g a ≢ number_at g b
peers_differ g valid latin a b peers = grind (arith, nat_tests, peers_on_line, line_differs)

-- The squares of a row or column, as a line of the grid and as they are met from an edge place.
use Rattle.std.proofs.Common.{◌≡◌, ◌≢◌, ℕ, ◌*◌, ◌/◌, ◌%◌, ◌<◌, inl, inr, arith}
use Rattle.std.proofs.lemmas.Bool.{cases_eq, cases_lt, lt-ltb, le-ltb}
use Rattle.std.proofs.lemmas.Nat.{div_below, mod_below}
use Rattle.latin_board.proofs.PeerLines.{places_apart}
use Rattle.latin_board.proofs.LatinLines.{line_cell_inside, some_width}
use Rattle.line_steps.specs.Laws.Edges.{view_index_low, view_line_low}
use Rattle.line_steps.specs.Views.{view_cell, view_line, view_index}

-- the row of a square is below the width
pub row_low : (w cell row : ℕ) → cell < w * w → row ≡ cell / w → row < w
row_low w cell row inside is = omega (arith, is, div_below cell w w (some_width w cell inside) inside)

-- the column of a square is below the width
pub column_low : (w cell column : ℕ) → cell < w * w → column ≡ cell % w → column < w
column_low w cell column inside is = omega (arith, is, mod_below cell w (some_width w cell inside))

-- ---- the squares from a place

-- different squares from a place have different indices in its line
pub view_index_apart : (w place i j : ℕ) → i < w → j < w → i ≢ j → view_index w place i ≢ view_index w place j
view_index_apart w place i j first second apart =
    elim (cases_lt place w) [
      | inl top ↦ rw (lt-ltb place w top) apart
      | inr below ↦ elim (cases_lt place (2 * w)) [
        | inl bottom ↦ rw (le-ltb place w below, lt-ltb place (2 * w) bottom) (λ same. apart (omega arith))
        | inr beside ↦ elim (cases_lt place (3 * w)) [
          | inl left ↦ rw (le-ltb place w below, le-ltb place (2 * w) beside, lt-ltb place (3 * w) left) apart
          | inr right ↦ rw (le-ltb place w below, le-ltb place (2 * w) beside, le-ltb place (3 * w) right) (λ same. apart (omega arith))
        ]
      ]
    ]

-- a square from a place is on the grid
pub view_inside : (w place k : ℕ) → place < 4 * w → k < w → view_cell w place k < w * w
view_inside w place k inside low =
    line_cell_inside w (view_line w place) (view_index w place k) (view_line_low w place inside) (view_index_low w place k low)

-- no square is met twice from a place
pub view_cell_once : (w place i j : ℕ) → place < 4 * w → i < w → j < w → view_cell w place i ≡ view_cell w place j → i ≡ j
view_cell_once w place i j inside first second same = elim (cases_eq i j) [
  | inl here ↦ here
  | inr apart ↦
      absurd (places_apart w (view_line w place) (view_index w place i) (view_index w place j) (view_line_low w place inside)
      (view_index_apart w place i j first second apart) same)
]

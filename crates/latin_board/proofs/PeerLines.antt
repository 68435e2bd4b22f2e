-- Two squares of a line are peers.
use Rattle.std.proofs.lemmas.Bool.Decides.{nat_tests}
use Rattle.std.proofs.Common.{◌≡◌, ◌≢◌, ℕ, ◌+◌, ◌-◌, ◌*◌, ◌/◌, ◌%◌, ◌<◌, inl, inr, sym, ap, ◌∙◌, arith}
use Rattle.std.proofs.lemmas.Bool.{cases_lt, lt-ltb, le-ltb}
use Rattle.std.proofs.lemmas.Nat.{div-mul-add, mod-mul-add, div-add-mod'}
use Rattle.latin_board.specs.Lines.{line_cell, ArePeers}
use Rattle.latin_board.proofs.LatinLines.{line_cell-column, line_cell_inside}

-- a square stands in the line of its column, at the place of its row
pub line_cell_of_column : (w cell : ℕ) → line_cell w (w + cell % w) (cell / w) ≡ cell
line_cell_of_column w cell = line_cell-column w (cell % w) (cell / w) ∙ div-add-mod' cell w

-- different places of a line are different squares
pub places_apart : (w line i j : ℕ) → line < 2 * w → i ≢ j → line_cell w line i ≢ line_cell w line j
places_apart w line i j below apart =
    elim (cases_lt line w) [
      | inl row ↦ rw (lt-ltb line w row) (λ same. apart (omega arith))
      | inr column ↦
          let low : line - w < w = omega arith in
          rw (le-ltb line w column)
          (λ same. apart (sym (div-mul-add i w (line - w) low) ∙ ap (λ cell. cell / w) same ∙ div-mul-add j w (line - w) low))
    ]

-- two squares of a line are peers
pub line_peers : (w line i j : ℕ) → line < 2 * w → i < w → j < w → i ≢ j → ArePeers w (line_cell w line i) (line_cell w line j)
line_peers w line i j below first second apart =
    grind (arith, nat_tests, line_cell_inside, places_apart, div-mul-add, mod-mul-add)

-- A repeated number stands elsewhere in its square's row or column.
use Rattle.std.proofs.lemmas.Bool.Decides.{nat_tests}
use Rattle.std.proofs.Common.{◌≡◌, ◌≢◌, ◌↔◌, ◌⊎◌, ℕ, ◌+◌, ◌*◌, ◌/◌, ◌%◌, ◌<◌, inl, inr, ap, ◌∙◌, arith}
use Rattle.std.proofs.lemmas.Nat.{div_below, mod_below}
use Rattle.latin_board.specs.Squares.{GridValue, number_at}
use Rattle.latin_board.specs.Lines.{line_cell}
use Rattle.latin_board.proofs.LatinLines.{some_width, line_cell_of_row}
use Rattle.latin_board.proofs.PeerLines.{line_cell_of_column, line_peers}
use Rattle.board_checks.specs.Demands.{IsRepeated}
use Rattle.board_checks.specs.Inner.Repeats.{IsElsewhere}

-- a number that stands elsewhere in a line of its square is repeated
pub repeated_from_line : (g : GridValue) (cell line place : ℕ) → 0 < number_at g cell → line < 2 * g.size → place < g.size
    → line_cell g.size line place ≡ cell → IsElsewhere g cell line → IsRepeated g cell
repeated_from_line g cell line place filled below within here e = grind (arith, nat_tests, line_peers)

-- if another square of a line has a square's number, this stands elsewhere in the line
elsewhere_at : (g : GridValue) (cell other line place : ℕ) → place < g.size → line_cell g.size line place ≡ other
    → cell ≢ other → number_at g other ≡ number_at g cell → IsElsewhere g cell line
elsewhere_at g cell other line place within here apart same = grind (arith, nat_tests)

-- the row and the column of a square have all its peers
pub repeated_by_lines : (g : GridValue) (cell : ℕ) → cell < g.size * g.size
    → IsRepeated g cell
    ↔ ((0 < number_at g cell) × (IsElsewhere g cell (cell / g.size) ⊎ IsElsewhere g cell (g.size + cell % g.size)))
repeated_by_lines g cell inside =
    let w = g.size in
    let some = some_width w cell inside in
    let row = div_below cell w w some inside in
    let column = mod_below cell w some in (
      λ r. (
        r.filled,
        elim r.peers.shared [
          | inl rows ↦ inl (elsewhere_at g cell r.other (cell / w) (r.other % w) (mod_below r.other w some)
              (ap (λ line. line_cell w line (r.other % w)) rows ∙ line_cell_of_row w r.other r.peers.second) r.peers.apart r.same)
          | inr columns ↦ inr (elsewhere_at g cell r.other (w + cell % w) (r.other / w) (div_below r.other w w some r.peers.second)
              (ap (λ c. line_cell w (w + c) (r.other / w)) columns ∙ line_cell_of_column w r.other) r.peers.apart r.same)
        ],
      ),
      λ h. elim h.1 [
        | inl along ↦ repeated_from_line g cell (cell / w) (cell % w) h.0 (omega arith) column (line_cell_of_row w cell inside) along
        | inr down ↦ repeated_from_line g cell (w + cell % w) (cell / w) h.0 (omega arith) row (line_cell_of_column w cell) down
      ],
    )

-- a blank square has no repeated number
pub blank_unrepeated : (g : GridValue) (cell : ℕ) → number_at g cell ≡ 0 → IsRepeated g cell → ⊥
blank_unrepeated g cell blank r = omega (arith, r.filled)

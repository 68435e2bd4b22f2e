-- The numbers of a grid one by one.
use Rattle.std.proofs.Common.{◌≡◌, ℕ, ◌*◌, ◌<◌, ◌≤◌, ap, sym, ◌∙◌, arith}
use Rattle.std.proofs.lemmas.List.{ext_get_or}
use Rattle.latin_board.specs.Squares.{GridValue, IsGrid, number_at}

-- no number of a grid is above its size
pub number_within : (g : GridValue) → IsGrid g → (cell : ℕ) → cell < g.size * g.size → number_at g cell ≤ g.size
number_within g valid cell inside = valid.within cell 0 (omega (arith, valid.count))

-- grids of one size with the same number at each square are one
pub same_numbers : (g h : GridValue) → IsGrid g → IsGrid h → g.size ≡ h.size
    → ((cell : ℕ) → cell < g.size * g.size → number_at g cell ≡ number_at h cell) → g ≡ h
same_numbers g h g_valid h_valid size each =
    let squares = ap (λ w. w * w) size in
    let numbers = ext_get_or 0 g.numbers h.numbers (g_valid.count ∙ squares ∙ sym h_valid.count) (λ cell inside. each cell (omega (arith, g_valid.count))) in
    λ i. record { size = size i; numbers = numbers i }

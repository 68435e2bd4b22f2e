-- The edge places at the two ends of a line.
use Rattle.std.proofs.lemmas.Bool.Decides.{nat_tests}
use Rattle.std.proofs.Common.{◌≡◌, ℕ, ◌+◌, ◌*◌, ◌<◌, ◌⊎◌, arith}
use Rattle.std.proofs.lemmas.Bool.{cases_lt, lt-ltb, le-ltb}
use Rattle.line_steps.specs.Views.{view_line, front_place}
use Rattle.line_steps.specs.Laws.Edges.{edge_cases}

-- a place that looks along a line is one of its two ends
pub ends : (w place line : ℕ) → place < 4 * w → view_line w place ≡ line → (place ≡ front_place w line) ⊎ (place ≡ front_place w line + w)
ends w place line inside = grind (arith, nat_tests, edge_cases, le-ltb, lt-ltb)

-- the place after the last square of a line looks along it, too
pub back_line : (w line : ℕ) → line < 2 * w → view_line w (front_place w line + w) ≡ line
back_line w line inside = grind (arith, nat_tests, cases_lt, lt-ltb, le-ltb)

-- the place after the last square of a line is one of the grid's
pub back_low : (w line : ℕ) → line < 2 * w → front_place w line + w < 4 * w
back_low w line inside = grind (arith, nat_tests, cases_lt, lt-ltb, le-ltb)

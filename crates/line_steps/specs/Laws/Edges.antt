-- A fact that holds at each of the four edges holds at any place; the squares from a place are the grid's.
use Rattle.std.proofs.Common.{ℕ, ◌*◌, ◌<◌, ◌≤◌, nat_lt, arith}
use Rattle.std.proofs.lemmas.Bool.{cond_both, ltb-true, ltb-false}
use Rattle.line_steps.specs.Views.{by_edge, view_index, view_line}

-- what holds above, below, left and right holds at each place
pub edge_cases : {A : Type 0} (P : A → Type 0) (w place : ℕ) (upper lower left right : A)
    → (place < w → P upper) → (w ≤ place → place < 2 * w → P lower)
    → (2 * w ≤ place → place < 3 * w → P left) → (3 * w ≤ place → P right) → P (by_edge w place upper lower left right)
edge_cases P w place upper lower left right at_upper at_lower at_left at_right =
    cond_both (nat_lt place w) upper _ P (λ e. at_upper (ltb-true place w e)) (λ e.
    cond_both (nat_lt place (2 * w)) lower _ P (λ f. at_lower (ltb-false place w e) (ltb-true place (2 * w) f)) (λ f.
    cond_both (nat_lt place (3 * w)) left right P (λ g. at_left (ltb-false place (2 * w) f) (ltb-true place (3 * w) g))
    (λ g. at_right (ltb-false place (3 * w) g))))

-- ---- the squares from a place

-- a place looks along one of the lines
pub view_line_low : (w place : ℕ) → place < 4 * w → view_line w place < 2 * w
view_line_low w place inside =
    edge_cases (λ line. line < 2 * w) w place _ _ _ _ (λ upper. omega arith) (λ from lower. lower)
    (λ from left. omega arith)
    (λ right. omega arith)

-- the k-th square from a place has its index within its line
pub view_index_low : (w place k : ℕ) → k < w → view_index w place k < w
view_index_low w place k low =
    edge_cases (λ i. i < w) w place _ _ _ _ (λ upper. low) (λ from lower. omega arith) (λ from left. low)
    (λ right. omega arith)

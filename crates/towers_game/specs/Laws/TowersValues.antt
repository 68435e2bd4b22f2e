-- The laws of what Towers items say: it shows which items there are, and it is all that a puzzle is.
use Rattle.std.proofs.lemmas.Bool.Decides.{nat_tests}
use Rattle.std.proofs.Common.{◌≡◌, ℕ, ◌+◌, ◌-◌, ◌*◌, ◌<◌, ◌≤◌, nat_lt, refl, sym, ◌∙◌, ap, arith, slice_index, Some}
use Rattle.std.proofs.lemmas.Bool.{lt-ltb, le-ltb}
use Rattle.std.proofs.lemmas.List.{get_or-replicate, ext_get_or}
use Rattle.latin_board.proofs.Numbers.{number_within}
use Rattle.towers_game.specs.Towers.{TowersValue, IsTowers, clue_of, towers_items, has_towers, towers_says, towers_most, blank_towers}

-- one of the first items says the clue at its place, and a later one the given of its square
says_clue : (v : TowersValue) (i : ℕ) → i < 4 * v.size → towers_says v i ≡ clue_of v i
says_clue v i inside = rw (lt-ltb i (4 * v.size) inside) refl

-- a later item says the given of its square
says_given : (v : TowersValue) (i : ℕ) → 4 * v.size ≤ i → towers_says v i ≡ slice_index v.givens (i - 4 * v.size)
says_given v i past = rw (le-ltb i (4 * v.size) past) refl

-- the puzzle has the items that say something
pub has_by_value : (v : TowersValue) (i : ℕ) → has_towers v i ≡ nat_lt 0 (towers_says v i)
has_by_value v i = grind (arith, nat_tests)

-- no item says more than the width
pub value_within : (v : TowersValue) (i : ℕ) → IsTowers v → i < towers_items v.size
    → towers_says v i ≤ towers_most v.size i
value_within v i h inside = grind (arith, nat_tests, says_clue, says_given, number_within)

-- two puzzles of one size whose items say the same are one
pub value_all : (p q : TowersValue) → IsTowers p → IsTowers q → p.size ≡ q.size
    → ((i : ℕ) → i < towers_items p.size → towers_says p i ≡ towers_says q i) → p ≡ q
value_all p q p_valid q_valid size same =
    let clues =
    ext_get_or 0 p.clues q.clues (p_valid.clue_count ∙ ap (λ w. 4 * w) size ∙ sym q_valid.clue_count) (λ i inside.
    let low : i < 4 * p.size = omega (arith, p_valid.clue_count) in
    sym (says_clue p i low) ∙ same i (omega arith) ∙ says_clue q i (omega (arith, size))) in
    let givens =
    ext_get_or 0 p.givens q.givens (p_valid.givens.count ∙ ap (λ w. w * w) size ∙ sym q_valid.givens.count) (λ k inside.
    let low : k < p.size * p.size = omega (arith, p_valid.givens.count) in
    given_same k low) in
    λ i. record { size = size i; clues = clues i; givens = givens i }
  where
    at : (v : TowersValue) (k : ℕ) → towers_says v (4 * v.size + k) ≡ slice_index v.givens k
    at v k = says_given v (4 * v.size + k) (omega arith) ∙ ap (λ n. slice_index v.givens n) (omega arith)

    given_same : (k : ℕ) → k < p.size * p.size → slice_index p.givens k ≡ slice_index q.givens k
    given_same k low =
        sym (at p k) ∙ same (4 * p.size + k) (omega (arith, low))
        ∙ ap (λ n. towers_says q (4 * n + k)) size ∙ at q k

-- no item of the blank puzzle says anything
blank_says : (w i : ℕ) → i < towers_items w → towers_says (blank_towers w) i ≡ 0
blank_says w i inside = grind (arith, nat_tests, says_clue, get_or-replicate, says_given)

-- no item of a puzzle that is blank says anything
pub blank_none : (v : TowersValue) (w : ℕ) → v ≡ blank_towers w → (i : ℕ) → i < towers_items w → towers_says v i ≡ 0
blank_none v w is i inside = ap (λ (u : TowersValue). towers_says u i) is ∙ blank_says w i inside

-- ---- places

-- the item of a square says the square's given
pub given_says : (v : TowersValue) (cell : ℕ) → towers_says v (4 * v.size + cell) ≡ slice_index v.givens cell
given_says v cell = says_given v (4 * v.size + cell) (omega arith) ∙ ap (λ n. slice_index v.givens n) (omega arith)

-- a clue stands where its item says something
pub clue_says : (v : TowersValue) (place i : ℕ) → place < 4 * v.size → Some place ≡ Some i
    → nat_lt 0 (clue_of v place) ≡ nat_lt 0 (towers_says v i)
clue_says v place i inside is = grind (arith, nat_tests, says_clue)

-- The laws of Towers items: what a cut keeps, what two cuts make, and that the full puzzle of a Latin square is solved
-- by it.
use Rattle.std.proofs.lemmas.Bool.Decides.{nat_tests, Decides-at, Decides-like}
use Rattle.std.proofs.Common.{◌≡◌, ◌↔◌, ℕ, zero, ◌+◌, ◌*◌, ◌<◌, ◌≤◌, Bool, true, false, ◌&&◌, ◌||◌, [], length}
use Rattle.std.proofs.Common.{refl, sym, ◌∙◌, arith, nat_lt, ◌==◌, slice_index, slice_index_or}
use Rattle.std.specs.Bool.{Decides, IsTrue}
use Rattle.std.specs.List.{range_with_len}
use Rattle.std.proofs.lemmas.Bool.{lt-ltb}
use Rattle.std.proofs.lemmas.List.{length-reverse}
use Rattle.std.proofs.lemmas.List.Elements.{All-map}
use Rattle.std.proofs.lemmas.List.FromFn.{length-map-range_with_len, get_or-map-range_with_len}
use Rattle.latin_board.specs.Squares.{GridValue, IsGrid, IsLatin, number_at, row_of, column_of}
use Rattle.latin_board.proofs.LatinTest.{all_in_range}
use Rattle.latin_board.proofs.Numbers.{number_within}
use Rattle.tower_lines.specs.TowersSeen.{seen}
use Rattle.tower_lines.proofs.SeenLemmas.{seen_most, seen_some}
use Rattle.trail_solver.specs.Puzzles.{Solves}
use Rattle.game_texts.specs.declared.game.TheConstants.{MOST_ITEMS}
use Rattle.towers_game.specs.Towers.{TowersValue, IsTowers, clue_of, HoldsClues, holds_clue, holds_clues, towers_puzzle}
use Rattle.towers_game.specs.Towers.{towers_items, has_towers, cut_towers, full_towers, towers_given_grid}
use Rattle.line_steps.specs.Views.{line_from}
use Rattle.trail_solver.proofs.KeptItems.{length-kept, kept-all, kept-kept, All-kept, still_asked, none_asked}
use Rattle.trail_solver.proofs.KeptItems.{has_entry-kept, items_agree, has_entry-full, not_positive, small_widths, IsGrid-kept, kept_number}
use Rattle.line_steps.specs.Laws.Edges.{edge_cases}

-- ---- the test of the clues

-- the test of one clue tells whether it holds, where it is there
one_clue_decides : (n m : ℕ) → Decides ((n == 0) || (m == n)) (0 < n → m ≡ n)
one_clue_decides n m = grind (arith, nat_tests)

-- the test of the clues answers whether all hold
pub clues_decide : (v : TowersValue) (g : GridValue) → Decides (holds_clues v g) (HoldsClues v g)
clues_decide v g =
    Decides-like (holds_clues v g)
    (λ all. record { each = λ place inside. all place (omega arith) (omega arith) })
    (λ h place low inside. h.each place (omega arith))
    (all_in_range (holds_clue v g) (λ place. 0 < clue_of v place → seen (line_from g place) ≡ clue_of v place)
    (λ place. one_clue_decides (clue_of v place) (seen (line_from g place))) 0 (4 * v.size))

-- an answer that is the test of the clues tells whether all hold
pub clues_tested : (v : TowersValue) (g : GridValue) (t : Bool) → t ≡ holds_clues v g → IsTrue t ↔ HoldsClues v g
clues_tested v g t value = Decides-at _ _ value (clues_decide v g)

-- ---- what holds of every puzzle

-- the width is from 3 to 9
pub valid_size : (v : TowersValue) → IsTowers v → (3 ≤ v.size) × (v.size ≤ 9)
valid_size v h = (h.givens.smallest, h.givens.largest)

-- a given is at most the width
pub valid_given : (v : TowersValue) (cell : ℕ) → IsTowers v → cell < v.size * v.size
    → slice_index v.givens cell ≤ v.size
valid_given v cell h inside = number_within (towers_given_grid v) h.givens cell inside

-- ---- cuts

-- a cut is a puzzle
pub cut_valid : (v : TowersValue) (keep : ℕ → Bool) → IsTowers v → IsTowers (cut_towers v keep)
cut_valid v keep h = record {
  givens = IsGrid-kept (towers_given_grid v) keep (4 * v.size) h.givens;
  clue_count = length-kept zero keep 0 v.clues ∙ h.clue_count;
  clues_within = All-kept v.size keep 0 v.clues h.clues_within;
}

-- a cut has the items that were there and are in the set
pub cut_has : (v : TowersValue) (keep : ℕ → Bool) (i : ℕ)
    → has_towers (cut_towers v keep) i ≡ (has_towers v i && keep i)
cut_has v keep i = has_entry-kept (nat_lt 0) zero refl (4 * v.size) v.clues v.givens keep i

-- a given of a cut was there
pub cut_given : (v : TowersValue) (keep : ℕ → Bool) (cell : ℕ) → 0 < slice_index (cut_towers v keep).givens cell
    → slice_index (cut_towers v keep).givens cell ≡ slice_index v.givens cell
cut_given v keep cell = kept_number keep (4 * v.size) v.givens cell

-- to keep every item changes nothing
pub cut_all : (v : TowersValue) → cut_towers v (λ i. true) ≡ v
cut_all v = rw (kept-all zero 0 v.clues, kept-all zero (4 * v.size) v.givens) refl

-- two cuts are one, by the items in both sets
pub cut_cut : (v : TowersValue) (first second : ℕ → Bool)
    → cut_towers (cut_towers v first) second ≡ cut_towers v (λ i. first i && second i)
cut_cut v first second =
    rw (kept-kept zero first second 0 v.clues, kept-kept zero first second (4 * v.size) v.givens) refl

-- the widths that are generated have few items
pub few_items : (w : ℕ) → 3 ≤ w → w ≤ 6 → towers_items w ≤ MOST_ITEMS
few_items w low high =
    small_widths (λ n. towers_items n ≤ MOST_ITEMS) (omega arith) (omega arith) (omega arith) (omega arith) w low high

-- sets that agree on the items that the puzzle has cut it alike
pub cut_agrees : (v : TowersValue) (a b : ℕ → Bool) → IsTowers v
    → ((i : ℕ) → i < towers_items v.size → has_towers v i ≡ true → a i ≡ b i) → cut_towers v a ≡ cut_towers v b
cut_agrees v a b h same =
    let kept =
    items_agree (nat_lt 0) zero not_positive (4 * v.size) v.clues v.givens a b h.clue_count
    (λ i inside has. same i (omega (arith, h.givens.count)) has) in
    rw (kept.0, kept.1) refl

-- a cut loses no solution
pub cut_solved : (v : TowersValue) (keep : ℕ → Bool) (g : GridValue) → Solves (towers_puzzle v) g
    → Solves (towers_puzzle (cut_towers v keep)) g
cut_solved v keep g h = record {
  is_grid = h.is_grid;
  same_size = h.same_size;
  latin = h.latin;
  givens = λ cell inside. still_asked keep (4 * v.size) v.givens cell (number_at g cell) (h.givens cell inside);
  clues = (clues_decide (cut_towers v keep) g).1 (record {
    each = λ place inside. still_asked keep 0 v.clues place (seen (line_from g place))
        (((clues_decide v g).0 h.clues).each place inside);
  });
}

-- without items a puzzle asks nothing
pub cut_none : (v : TowersValue) (g : GridValue) → IsGrid g → IsLatin g → g.size ≡ v.size
    → Solves (towers_puzzle (cut_towers v (λ i. false))) g
cut_none v g is_grid latin size = record {
  is_grid = is_grid;
  same_size = size;
  latin = latin;
  givens = λ cell inside. none_asked (4 * v.size) v.givens cell (number_at g cell);
  clues = (clues_decide (cut_towers v (λ i. false)) g).1 (record {
    each = λ place inside. none_asked 0 v.clues place (seen (line_from g place));
  });
}

-- ---- the full puzzle

-- a column has as many squares as the grid is wide
length-column : (g : GridValue) (column : ℕ) → length (column_of g column) ≡ g.size
length-column g column = length-map-range_with_len (λ r. number_at g (r * g.size + column)) 0 g.size

-- a row has as many squares as the grid is wide
length-row : (g : GridValue) (row : ℕ) → length (row_of g row) ≡ g.size
length-row g row = length-map-range_with_len (λ c. number_at g (row * g.size + c)) 0 g.size

-- from each place as many squares are seen as the grid is wide
pub length-line_from : (g : GridValue) (place : ℕ) → length (line_from g place) ≡ g.size
length-line_from g place = grind (arith, nat_tests, edge_cases, length-column, length-reverse, length-row)

-- from no place are more towers seen than the grid is wide
pub seen_within : (g : GridValue) (place : ℕ) → seen (line_from g place) ≤ g.size
seen_within g place = omega (arith, seen_most [] (line_from g place), length-line_from g place)

-- the clue of the full puzzle at a place is the number of towers seen from there
full_clue : (g : GridValue) (place : ℕ) → place < 4 * g.size → clue_of (full_towers g) place ≡ seen (line_from g place)
full_clue g place inside =
    get_or-map-range_with_len (λ place. seen (line_from g place)) 0 (4 * g.size) place place 0 inside (omega arith)

-- the full puzzle of a valid grid is one of Towers
pub full_valid : (g : GridValue) → IsGrid g → IsTowers (full_towers g)
full_valid g h = record {
  givens = h;
  clue_count = length-map-range_with_len (λ place. seen (line_from g place)) 0 (4 * g.size);
  clues_within =
      All-map (λ n. n ≤ g.size) (λ place. seen (line_from g place)) (range_with_len 0 (4 * g.size))
      (λ k d inside. seen_within g (slice_index_or (range_with_len 0 (4 * g.size)) k d));
}

-- the full puzzle has every item
pub full_has : (g : GridValue) (i : ℕ) → IsGrid g → IsLatin g → i < towers_items g.size
    → has_towers (full_towers g) i ≡ true
full_has g i is_grid latin inside =
    has_entry-full (nat_lt 0) zero (4 * g.size) (full_towers g).clues g i latin
    (λ low. rw (full_clue g i low)
    (lt-ltb 0 (seen (line_from g i)) (seen_some (line_from g i) (omega (arith, length-line_from g i, is_grid.smallest)))))
    inside

-- a Latin square solves its full puzzle
pub full_solved : (g : GridValue) → IsGrid g → IsLatin g → Solves (towers_puzzle (full_towers g)) g
full_solved g is_grid latin = record {
  is_grid = is_grid;
  same_size = refl;
  latin = latin;
  givens = λ cell inside low. refl;
  clues = (clues_decide (full_towers g) g).1 (record { each = λ place inside low. sym (full_clue g place inside) });
}

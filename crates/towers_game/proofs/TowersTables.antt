-- The clues of a Towers puzzle as a table of 36 places: the full puzzle's, and one item less.
use Rattle.std.proofs.lemmas.Bool.Decides.{nat_tests}
use Rattle.std.proofs.Common.{◌≡◌, ℕ, zero, ◌+◌, ◌*◌, ◌<◌, ◌≤◌, not, List, set, refl, arith, replicate, ◌==◌, subst}
use Rattle.std.proofs.Math.Seq.{take-set-lt}
use Rattle.std.proofs.lemmas.List.{drop-replicate, length-replicate, take-replicate}
use Rattle.std.proofs.lemmas.List.Elements.{All-replicate}
use Rattle.latin_board.specs.Squares.{GridValue, IsGrid, blank_grid}
use Rattle.tower_lines.specs.TowersSeen.{seen}
use Rattle.towers_game.specs.Inner.TowersFields.{KeepsTowers, towers_value}
use Rattle.towers_game.specs.Towers.{blank_towers, cut_towers, with_clue}
use Rattle.line_steps.specs.Views.{line_from}
use Rattle.towers_game.specs.Laws.TowersItems.{full_valid}
use Rattle.line_steps.proofs.FilledLemmas.{IsFilledBy}
use Rattle.trail_solver.proofs.ItemsLost.{item_emptied, given_emptied}

-- the clues of the first n places are the grid's
abbrev pub HasClues : GridValue → ℕ → List ℕ → Type 0
HasClues g n clues = IsFilledBy zero 36 (λ place. seen (line_from g place)) n clues

-- the clues of a grid, with its numbers as givens, are those of a Towers puzzle
pub full_kept : (g : GridValue) (clues : List ℕ) → IsGrid g → HasClues g (4 * g.size) clues → KeepsTowers clues g
full_kept g clues is_grid h = grind (arith, nat_tests, full_valid)

-- setting a clue to 0 cuts its item out of the puzzle
pub clue_dropped : (givens : GridValue) (clues : List ℕ) (i : ℕ) → i < 4 * givens.size
    → towers_value (set clues i 0) givens ≡ cut_towers (towers_value clues givens) (λ j. not (j == i))
clue_dropped givens clues i inside = grind (arith, nat_tests, item_emptied)

-- setting a given to 0 cuts its item out of the puzzle
pub given_dropped : (old new : GridValue) (clues : List ℕ) (i k : ℕ) → 4 * old.size + k ≡ i → new.size ≡ old.size
    → new.numbers ≡ set old.numbers k 0
    → towers_value clues new ≡ cut_towers (towers_value clues old) (λ j. not (j == i))
given_dropped old new clues i k e size numbers = grind (arith, nat_tests, given_emptied)

-- setting an entry of the table puts that clue at its place in the puzzle
pub clue_put : (givens : GridValue) (clues : List ℕ) (place n : ℕ) → place < 4 * givens.size
    → towers_value (set clues place n) givens ≡ with_clue (towers_value clues givens) place n
clue_put givens clues place n inside = rw (take-set-lt (4 * givens.size) clues place n inside) refl

-- an empty table of clues and a blank grid stand for the blank puzzle
pub blank_value : (w : ℕ) (clues : List ℕ) (givens : GridValue) → clues ≡ replicate 36 0 → givens ≡ blank_grid w → IsGrid givens
    → towers_value clues givens ≡ blank_towers w
blank_value w clues givens none blank is_grid =
    let large : w ≤ 9 = subst (λ (g : GridValue). g.size ≤ 9) blank is_grid.largest in
    rw (none, blank, take-replicate (4 * w) 36 zero (omega (arith, large))) refl

-- an empty table of clues, with any givens, is that of a Towers puzzle
pub blank_kept : (clues : List ℕ) (givens : GridValue) → clues ≡ replicate 36 0 → IsGrid givens → KeepsTowers clues givens
blank_kept clues givens none is_grid =
    let w = givens.size in
    rw none (record {
      padded = record {
        count = length-replicate 36 zero;
        within = omega (arith, is_grid.largest);
        rest = drop-replicate (4 * w) 36 zero;
      };
      within = rw (take-replicate (4 * w) 36 zero (omega (arith, is_grid.largest))) (All-replicate (λ clue. clue ≤ w) (4 * w) zero (omega arith));
    })

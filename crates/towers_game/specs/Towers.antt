-- Towers puzzles: clues and givens, the grids that hold the clues, and the items.
--
-- A clue stands before its line, at an edge place. The places are numbered in description order: the columns from
-- above, the columns from below, the rows from the left, the rows from the right.
use Rattle.std.specs.Prelude.{◌≡◌, ℕ, ◌*◌, ◌≤◌, List, length, All, ◌+◌, ◌-◌, ◌<◌, Bool, ◌==◌, ◌||◌, nat_lt}
use Rattle.std.specs.Prelude.{if◌then◌else◌, slice_index, zero, map, set, replicate}
use Rattle.std.specs.List.{range_with_len, list_all}
use Rattle.latin_board.specs.Squares.{GridValue, IsGrid}
use Rattle.tower_lines.specs.TowersSeen.{seen}
use Rattle.line_steps.specs.Views.{line_from}
use Rattle.trail_solver.specs.Puzzles.{Puzzle}
use Rattle.trail_solver.specs.Items.{kept_items}

-- a width, a clue for each edge place and a number for each square, 0 where there is none
pub record TowersValue : Type 0 where
  pub size : ℕ
  pub clues : List ℕ
  pub givens : List ℕ

-- the givens as a grid, blank where none is
abbrev pub towers_given_grid : TowersValue → GridValue
towers_given_grid v = record { size = v.size; numbers = v.givens }

-- what each Towers puzzle of the program keeps
pub record IsTowers (v : TowersValue) : Type 0 where
  pub givens : IsGrid (towers_given_grid v)
  pub clue_count : length v.clues ≡ 4 * v.size
  pub clues_within : All (λ clue. clue ≤ v.size) v.clues

-- the clue at a place, 0 for none
abbrev pub clue_of : TowersValue → ℕ → ℕ
clue_of v place = slice_index v.clues place

-- from each clued place as many towers are seen as the clue says
pub record HoldsClues (v : TowersValue) (g : GridValue) : Type 0 where
  pub each : (place : ℕ) → place < 4 * v.size → 0 < clue_of v place → seen (line_from g place) ≡ clue_of v place

-- from the place as many towers are seen as its clue says, or it has none
abbrev pub holds_clue : TowersValue → GridValue → ℕ → Bool
holds_clue v g place = (clue_of v place == 0) || (seen (line_from g place) == clue_of v place)

-- from each place as many towers are seen as its clue says, where it has one
abbrev pub holds_clues : TowersValue → GridValue → Bool
holds_clues v g = list_all (holds_clue v g) (range_with_len 0 (4 * v.size))

-- what generic code knows of the puzzle
abbrev pub towers_puzzle : TowersValue → Puzzle
towers_puzzle v = record {
  size = v.size;
  given = λ cell. slice_index v.givens cell;
  meets = holds_clues v;
  clued = λ place. nat_lt 0 (clue_of v place);
}

-- how many items a puzzle of a width can have: its clues, and after them its givens
abbrev pub towers_items : ℕ → ℕ
towers_items w = 4 * w + w * w

-- whether the puzzle has the item
abbrev pub has_towers : TowersValue → ℕ → Bool
has_towers v item =
    if nat_lt item (4 * v.size) then nat_lt 0 (clue_of v item)
    else nat_lt 0 (slice_index v.givens (item - 4 * v.size))

-- what an item says, 0 where the puzzle hasn't it
abbrev pub towers_says : TowersValue → ℕ → ℕ
towers_says v item =
    if nat_lt item (4 * v.size) then clue_of v item else slice_index v.givens (item - 4 * v.size)

-- the most that an item can say: a clue counts towers of the width, a given is a number of the width
abbrev pub towers_most : ℕ → ℕ → ℕ
towers_most w item = w

-- the puzzle of a width without any item
abbrev pub blank_towers : ℕ → TowersValue
blank_towers w = record { size = w; clues = replicate (4 * w) 0; givens = replicate (w * w) 0 }

-- the puzzle with another clue at a place, 0 for none
abbrev pub with_clue : TowersValue → ℕ → ℕ → TowersValue
with_clue v place n = record { size = v.size; clues = set v.clues place n; givens = v.givens }

-- the puzzle with another given in a square, 0 for none
abbrev pub with_towers_given : TowersValue → ℕ → ℕ → TowersValue
with_towers_given v cell n = record { size = v.size; clues = v.clues; givens = set v.givens cell n }

-- the puzzle without its items outside a set
abbrev pub cut_towers : TowersValue → (ℕ → Bool) → TowersValue
cut_towers v keep = record {
  size = v.size;
  clues = kept_items zero keep 0 v.clues;
  givens = kept_items zero keep (4 * v.size) v.givens;
}

-- the puzzle that has every item of a grid: at each place as many towers as are seen from there, and each square's
-- number
abbrev pub full_towers : GridValue → TowersValue
full_towers g = record {
  size = g.size;
  clues = map (λ place. seen (line_from g place)) (range_with_len 0 (4 * g.size));
  givens = g.numbers;
}

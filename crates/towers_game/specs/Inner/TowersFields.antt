-- The fields of a Towers puzzle: their invariant, and the value that they stand for.
use Rattle.std.specs.Prelude.{ℕ, zero, ◌*◌, ◌≤◌, List, take, All}
use Rattle.latin_board.specs.Squares.{GridValue}
use Rattle.line_steps.specs.Inner.Filled.{IsFilledTo}
use Rattle.towers_game.specs.Towers.{TowersValue}

-- 36 places for clues, of which those past the last edge place hold 0, and no clue is greater than the width
pub record KeepsTowers (clues : List ℕ) (givens : GridValue) : Type 0 where
  pub padded : IsFilledTo zero 36 (4 * givens.size) clues
  pub within : All (λ clue. clue ≤ givens.size) (take (4 * givens.size) clues)

-- the puzzle that they stand for
abbrev pub towers_value : List ℕ → GridValue → TowersValue
towers_value clues givens = record { size = givens.size; clues = take (4 * givens.size) clues; givens = givens.numbers }

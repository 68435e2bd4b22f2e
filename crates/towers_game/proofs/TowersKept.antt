-- A puzzle that was read keeps what each Towers puzzle keeps.
use Rattle.std.proofs.Common.{arith, ◌≡◌, ℕ, ◌*◌, ◌≤◌, List, take, Ok}
use Rattle.std.proofs.lemmas.Bool.Decides.{nat_tests}
use Rattle.std.proofs.lemmas.List.Elements.{All-from_recursion}
use Rattle.latin_board.specs.Squares.{GridValue}
use Rattle.line_steps.specs.Inner.Filled.{IsFilledTo}
use Rattle.towers_game.specs.Inner.TowersFields.{KeepsTowers}
use Rattle.towers_game.specs.TowersText.{clues_at}
use Rattle.towers_game.specs.Laws.CluePart.{clues_taken}

kept_at_size : (part clues : List ℕ) (givens : GridValue) → IsFilledTo 0 36 (4 * givens.size) clues
    → clues_at givens.size part ≡ Ok (take (4 * givens.size) clues) → KeepsTowers clues givens
kept_at_size part clues givens filled read = record {
  padded = filled;
  within =
      let (says, count, within) = clues_taken givens.size part (take (4 * givens.size) clues) read in
      All-from_recursion (λ clue. clue ≤ givens.size) (take (4 * givens.size) clues) within;
}

-- clues that were read into the table, with givens of the same width, are those of a Towers puzzle
pub towers_kept : (w : ℕ) (part clues : List ℕ) (givens : GridValue) → givens.size ≡ w → IsFilledTo 0 36 (4 * w) clues
    → clues_at w part ≡ Ok (take (4 * w) clues) → KeepsTowers clues givens
towers_kept w part clues givens size filled read = grind (arith, nat_tests, kept_at_size)

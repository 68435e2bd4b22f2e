-- The fillings of a grid's line are those of the sets of what its squares can hold.
use Rattle.std.proofs.lemmas.Bool.Decides.{nat_tests}
use Rattle.std.proofs.Common.{◌≡◌, ℕ, ◌<◌, List, length, get_or, arith}
use Rattle.std.proofs.lemmas.List.{get_or_default}
use Rattle.tower_lines.specs.LineFillings.{IsStart}
use Rattle.board_checks.specs.Demands.{IsFillingIn}
use Rattle.board_checks.specs.Inner.TowersLines.{CanHold}

-- the sets of a line's squares, by what stands there
pub record AreLineSets (w : ℕ) (line sets : List ℕ) : Type 0 where
  pub squares : length line ≡ w
  pub places : length sets ≡ w
  pub each : (k : ℕ) → k < w → CanHold w (get_or line k 0) (get_or sets k 0)

-- a filling of a line takes the number of each square from the square's set
pub start_from_filling : {w : ℕ} {line sets : List ℕ} (filled : List ℕ) → AreLineSets w line sets → IsFillingIn w line filled
    → IsStart sets filled × (length filled ≡ length sets)
start_from_filling filled are h = grind (arith, nat_tests)

-- different numbers, one from the set of each square of a line, are a filling of the line
pub filling_from_start : {w : ℕ} {line sets : List ℕ} (filled : List ℕ) → AreLineSets w line sets → IsStart sets filled
    → length filled ≡ length sets → IsFillingIn w line filled
filling_from_start filled are start whole = grind (arith, nat_tests, get_or_default)

-- Along which lines the signs of Unequal strike nothing that is left.
use Rattle.std.specs.Prelude.{◌≡◌, ℕ, ◌+◌, ◌<◌, false}
use Rattle.latin_board.specs.Lines.{line_cell}
use Rattle.trail_solver.specs.Pairs.{IsPair}
use Rattle.trail_solver.specs.Candidates.{CandidatesValue, may_be}
use Rattle.unequal_game.specs.Unequal.{UnequalValue}
use Rattle.unequal_game.specs.UnequalReasons.{IsBySign}

-- a sign between the two squares strikes nothing more at either end
abbrev pub IsSignQuiet : UnequalValue → ℕ → ℕ → CandidatesValue → Type 0
IsSignQuiet v a b c =
    (cell value : ℕ) → IsPair c.size cell value
    → (IsBySign v c a b cell value → may_be c cell value ≡ false)
    × (IsBySign v c b a cell value → may_be c cell value ≡ false)

-- no sign between a square of the line and the next strikes anything more at either end
abbrev pub AreSignsQuiet : UnequalValue → ℕ → CandidatesValue → Type 0
AreSignsQuiet v line c =
    (k : ℕ) → k + 1 < c.size → IsSignQuiet v (line_cell c.size line k) (line_cell c.size line (k + 1)) c

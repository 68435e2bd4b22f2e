-- Along which lines the clues of Towers strike nothing that is left, as they are looked at.
use Rattle.std.specs.Prelude.{◌≡◌, ℕ, ◌*◌, ◌<◌, false}
use Rattle.trail_solver.specs.Pairs.{IsPair}
use Rattle.trail_solver.specs.Candidates.{CandidatesValue, may_be}
use Rattle.towers_game.specs.Towers.{TowersValue}
use Rattle.line_steps.specs.Views.{view_line}
use Rattle.towers_game.specs.TowersReasons.{IsByClue}
use Rattle.towers_game.specs.Rows.{May}
use Rattle.towers_game.specs.declared.towers.clue_rows.Look.{Look}

-- as it is looked at, the clue at the place strikes nothing that is left
abbrev pub IsViewQuiet : TowersValue → Look → ℕ → CandidatesValue → Type 0
IsViewQuiet v look place c =
    (cell value : ℕ) → IsPair c.size cell value → IsByClue v (May look c) place cell value → may_be c cell value ≡ false

-- as they are looked at, the clues along the line strike nothing that is left
abbrev pub AreViewsQuiet : TowersValue → Look → ℕ → CandidatesValue → Type 0
AreViewsQuiet v look line c =
    (place : ℕ) → place < 4 * c.size → view_line c.size place ≡ line → IsViewQuiet v look place c

-- The strikes of each reason in Towers.
use Rattle.std.specs.Prelude.{ℕ, ◌*◌, ◌<◌}
use Rattle.trail_solver.specs.Candidates.{CandidatesValue}
use Rattle.towers_game.specs.Towers.{TowersValue, clue_of, towers_puzzle}
use Rattle.line_steps.specs.Left.{IsLeft}
use Rattle.towers_game.specs.Fillings.{Anything, Standing, IsUnfilled}
use Rattle.line_steps.specs.Reasons.{AllStrikes, Striking}
use Rattle.line_steps.specs.Struck.{IsNarrowed}
use Rattle.line_steps.specs.declared.reason.Reason.{Reason}
use Rattle.line_steps.specs.declared.reason.Reason.TheVariants.{Bound, Stand, Clue}

-- the place has a clue, and no line from it that shows the clue, by what may stand in it, has the value there
pub record IsByClue (v : TowersValue) (May : ℕ → ℕ → Type 0) (place cell value : ℕ) : Type 0 where
  pub place_is : place < 4 * v.size
  pub clued : 0 < clue_of v place
  pub unfilled : IsUnfilled v.size May place (clue_of v place) cell value

-- what a clue strikes, by its reasons
abbrev pub IsTowersOwn : TowersValue → CandidatesValue → Reason → ℕ → ℕ → Type 0
IsTowersOwn v c (Bound place) cell value = IsByClue v Anything place cell value
IsTowersOwn v c (Stand place) cell value = IsByClue v (Standing c) place cell value
IsTowersOwn v c (Clue place) cell value = IsByClue v (IsLeft c) place cell value
IsTowersOwn v c reason cell value = ⊥

-- what a reason strikes in Towers
abbrev pub IsTowersStruckBy : TowersValue → Striking
IsTowersStruckBy v = AllStrikes (towers_puzzle v) (IsTowersOwn v)

-- narrowing a Towers puzzle rules the value out
abbrev pub IsTowersStruck : TowersValue → CandidatesValue → ℕ → ℕ → Type 0
IsTowersStruck v = IsNarrowed (IsTowersStruckBy v)

-- The strikes of each reason in Unequal.
use Rattle.std.specs.Prelude.{◌≡◌, ℕ, ◌≤◌, ◌⊎◌}
use Rattle.trail_solver.specs.Candidates.{CandidatesValue}
use Rattle.unequal_game.specs.Unequal.{UnequalValue, IsGreater, unequal_puzzle}
use Rattle.line_steps.specs.Left.{IsLeft}
use Rattle.line_steps.specs.Reasons.{AllStrikes, Striking}
use Rattle.line_steps.specs.Struck.{IsNarrowed}
use Rattle.line_steps.specs.declared.reason.Reason.{Reason}
use Rattle.line_steps.specs.declared.reason.Reason.TheVariants.{Sign}

-- the square is one end of a sign, and by what is left of the other end the value is too great or too small for it
pub record IsBySign (v : UnequalValue) (c : CandidatesValue) (from to cell value : ℕ) : Type 0 where
  pub here : cell ≡ to
  pub why : (IsGreater v from to × ((u : ℕ) → IsLeft c from u → u ≤ value))
      ⊎ (IsGreater v to from × ((u : ℕ) → IsLeft c from u → value ≤ u))

-- what a sign strikes, by its reason
abbrev pub IsUnequalOwn : UnequalValue → CandidatesValue → Reason → ℕ → ℕ → Type 0
IsUnequalOwn v c (Sign from to) cell value = IsBySign v c from to cell value
IsUnequalOwn v c reason cell value = ⊥

-- what a reason strikes in Unequal
abbrev pub IsUnequalStruckBy : UnequalValue → Striking
IsUnequalStruckBy v = AllStrikes (unequal_puzzle v) (IsUnequalOwn v)

-- what an Unequal puzzle rules out
abbrev pub IsUnequalStruck : UnequalValue → CandidatesValue → ℕ → ℕ → Type 0
IsUnequalStruck v = IsNarrowed (IsUnequalStruckBy v)

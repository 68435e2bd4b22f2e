-- Sets of lines that gain and lose lines.
use Rattle.std.specs.Prelude.{◌≡◌, ◌⊎◌, ℕ, ◌<◌, ◌==◌, ◌||◌, ◌&&◌, not, true, false}
use Rattle.number_sets.specs.Sets.{has_number, IsEmpty}
use Rattle.line_steps.specs.Takes.{is_crossing}

-- new is old with the line, and with the lines that cross it at these places
abbrev pub GainsAcross : ℕ → ℕ → ℕ → ℕ → ℕ → Type 0
GainsAcross w line places old new =
    (k : ℕ) → has_number new k ≡ (has_number old k || ((k == line) || is_crossing w line places k))

-- nothing went at the places of a line, and new is old; or something did, and new is old with the line and those that
-- cross it there
abbrev pub IsNoted : ℕ → ℕ → ℕ → ℕ → ℕ → Type 0
IsNoted w line places old new =
    (IsEmpty places × (new ≡ old))
    ⊎ (((k : ℕ) × (has_number places k ≡ true)) × GainsAcross w line places old new)

-- new is old without one line
abbrev pub LosesLine : ℕ → ℕ → ℕ → Type 0
LosesLine line old new = (k : ℕ) → has_number new k ≡ (has_number old k && not (k == line))

-- none of the first lines is in the set
abbrev pub HasNoneBelow : ℕ → ℕ → Type 0
HasNoneBelow count set = (line : ℕ) → line < count → has_number set line ≡ false

-- the line is one of the first, and in the set
abbrev pub IsOneBelow : ℕ → ℕ → ℕ → Type 0
IsOneBelow count set line = (line < count) × (has_number set line ≡ true)

-- the line is one of the first, and new is old without it
pub record IsTaken (count old new line : ℕ) : Type 0 where
  pub one : IsOneBelow count old line
  pub rest : LosesLine line old new

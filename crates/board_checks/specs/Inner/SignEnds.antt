-- The numbers at both ends of a sign, as they stand or as they may come.
use Rattle.std.specs.Prelude.{◌≡◌, ℕ, ◌≤◌, ◌==◌, if◌then◌else◌, Some}
use Rattle.latin_board.specs.Squares.{GridValue}
use Rattle.unequal_game.specs.declared.unequal.sign.Sign.{Sign}
use Rattle.board_checks.specs.Demands.{Demand, IsBroken}
use Rattle.board_checks.specs.Games.{demand_if_present}

-- the greatest number that a square with this one, 0 for none, can hold
abbrev pub most_of : ℕ → ℕ → ℕ
most_of w number = if number == 0 then w else number

-- the least number that a square with this one, 0 for none, can hold
abbrev pub least_of : ℕ → ℕ
least_of number = if number == 0 then 1 else number

-- a square with the first number is never greater than one with the second, whatever comes into blank ones
abbrev pub NeverExceeds : ℕ → ℕ → ℕ → Type 0
NeverExceeds w greater lesser = most_of w greater ≤ least_of lesser

-- there is a sign between the two squares, and what it demands is broken
abbrev pub IsSignBroken : GridValue → Sign → ℕ → ℕ → Type 0
IsSignBroken g sign first second = (d : Demand) × (demand_if_present sign first second ≡ Some d) × IsBroken g d

-- The spots of a grid at which something may be demanded.
use Rattle.std.specs.Prelude.{◌≡◌, ℕ, ◌*◌, ◌<◌, IsTrue, Option, Some}
use Rattle.latin_board.specs.Squares.{GridValue}
use Rattle.board_checks.specs.declared.spot.Spot.{Spot}
use Rattle.board_checks.specs.declared.spot.Spot.TheVariants.{Edge, RightOf, Below}
use Rattle.board_checks.specs.Demands.{Demand, numbers_of, IsBroken}

-- the spot is at an edge place or beside a square of a grid of this width
abbrev pub IsSpot : ℕ → Spot → Type 0
IsSpot w (Edge place) = place < 4 * w
IsSpot w (RightOf cell) = cell < w * w
IsSpot w (Below cell) = cell < w * w

-- something is demanded at the spot, and the grid can't meet it any more
abbrev pub IsBrokenAt : (Spot → Option Demand) → GridValue → Spot → Type 0
IsBrokenAt demand g spot = (d : Demand) × (demand spot ≡ Some d) × IsBroken g d

-- whatever is demanded is so of the grid's numbers
abbrev pub MeetsAll : (Spot → Option Demand) → GridValue → Type 0
MeetsAll demand g = (spot : Spot) (d : Demand) → demand spot ≡ Some d → IsTrue (d.says (numbers_of g d))

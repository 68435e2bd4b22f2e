-- The errors of a board: squares whose number is repeated, and spots whose demand is broken.
use Rattle.std.specs.Prelude.{ℕ, Bool, false, IsTrue, ◌⊎◌, List, slice_index_or}
use Rattle.board_checks.specs.declared.spot.Spot.{Spot}
use Rattle.board_checks.specs.declared.spot.Spot.TheVariants.{Edge, RightOf, Below}

-- whether the number of each square is repeated, and whether what is demanded at each spot is broken: at the edge
-- places, on the right of each square and below it
pub record ErrorsValue : Type 0 where
  pub repeated : List Bool
  pub edges : List Bool
  pub right : List Bool
  pub below : List Bool

-- the square is an error
abbrev pub has_repeated : ErrorsValue → ℕ → Bool
has_repeated e cell = slice_index_or e.repeated cell false

-- the spot is an error
abbrev pub has_broken : ErrorsValue → Spot → Bool
has_broken e (Edge place) = slice_index_or e.edges place false
has_broken e (RightOf cell) = slice_index_or e.right cell false
has_broken e (Below cell) = slice_index_or e.below cell false

-- some square or spot is an error
abbrev pub HasError : ErrorsValue → Type 0
HasError e = ((cell : ℕ) × IsTrue (has_repeated e cell)) ⊎ ((spot : Spot) × IsTrue (has_broken e spot))

-- The demands of Towers and Unequal, and where they stand.
use Rattle.std.specs.Prelude.{ℕ, ◌+◌, ◌==◌, nat_lt, if◌then◌else◌, [], ◌∷◌, map, slice_index, Option, Some, None}
use Rattle.std.specs.List.{range_with_len}
use Rattle.tower_lines.specs.TowersSeen.{seen}
use Rattle.line_steps.specs.Views.{view_cell}
use Rattle.towers_game.specs.Towers.{TowersValue, clue_of}
use Rattle.unequal_game.specs.Unequal.{UnequalValue, right_sign, lower_sign, holds_sign, is_present}
use Rattle.unequal_game.specs.declared.unequal.sign.Sign.{Sign}
use Rattle.board_checks.specs.declared.spot.Spot.{Spot}
use Rattle.board_checks.specs.declared.spot.Spot.TheVariants.{Edge, RightOf, Below}
use Rattle.board_checks.specs.Demands.{Demand}

-- along the squares from an edge place as many towers are seen as its clue says
abbrev pub clue_demand : TowersValue → ℕ → Demand
clue_demand v place = record {
  cells = map (view_cell v.size place) (range_with_len 0 v.size);
  says = λ line. seen line == clue_of v place;
}

-- Towers demands something at each edge place that has a clue
abbrev pub towers_demand : TowersValue → Spot → Option Demand
towers_demand v (Edge place) = if nat_lt 0 (clue_of v place) then Some (clue_demand v place) else None
towers_demand v (RightOf cell) = None
towers_demand v (Below cell) = None

-- the numbers of two squares are as a sign between them says
abbrev pub sign_demand : Sign → ℕ → ℕ → Demand
sign_demand sign first second = record {
  cells = first ∷ second ∷ [];
  says = λ line. holds_sign sign (slice_index line 0) (slice_index line 1);
}

-- the demand of the sign between two squares, if there is a sign
abbrev pub demand_if_present : Sign → ℕ → ℕ → Option Demand
demand_if_present sign first second = if is_present sign then Some (sign_demand sign first second) else None

-- Unequal demands something between each two neighbours that have a sign
abbrev pub unequal_demand : UnequalValue → Spot → Option Demand
unequal_demand v (Edge place) = None
unequal_demand v (RightOf cell) = demand_if_present (right_sign v cell) cell (cell + 1)
unequal_demand v (Below cell) = demand_if_present (lower_sign v cell) cell (cell + v.size)

-- The fields of an Unequal puzzle: their invariant, and the value that they stand for.
use Rattle.std.specs.Prelude.{◌≡◌, ℕ, ◌*◌, List, None, slice_index_or, take}
use Rattle.latin_board.specs.declared.grid.TheConstants.{CELLS}
use Rattle.latin_board.specs.Squares.{GridValue, IsGrid}
use Rattle.unequal_game.specs.declared.unequal.direction.Direction.{Direction}
use Rattle.unequal_game.specs.declared.unequal.direction.Direction.TheVariants.{Right, Down}
use Rattle.unequal_game.specs.declared.unequal.sign.Sign.{Sign}
use Rattle.unequal_game.specs.declared.unequal.sign.Sign.TheVariants.{Absent}
use Rattle.line_steps.specs.Inner.Filled.{IsFilledTo}
use Rattle.unequal_game.specs.Unequal.{UnequalValue, neighbour, signs_towards}

-- the signs of squares towards their neighbours in a direction, a place for each square of the largest grid: absent
-- where the grid ends, and past its last square
pub record KeepsSigns (w : ℕ) (d : Direction) (places : List Sign) : Type 0 where
  pub padded : IsFilledTo Absent CELLS (w * w) places
  pub ends : (cell : ℕ) → neighbour w cell d ≡ None → slice_index_or (take (w * w) places) cell Absent ≡ Absent

-- the fields of a puzzle: signs to the right, signs below, and a grid of givens
pub record KeepsUnequal (right below : List Sign) (givens : GridValue) : Type 0 where
  pub right_kept : KeepsSigns givens.size Right right
  pub below_kept : KeepsSigns givens.size Down below
  pub grid : IsGrid givens

-- the puzzle that these fields stand for
abbrev pub unequal_value : List Sign → List Sign → GridValue → UnequalValue
unequal_value right below givens = record {
  size = givens.size;
  right = take (givens.size * givens.size) right;
  below = take (givens.size * givens.size) below;
  givens = givens.numbers;
}

-- the places hold the signs that a rule gives between neighbours in a direction
pub record HoldsSignsOf (w : ℕ) (sign : ℕ → ℕ → Sign) (d : Direction) (places : List Sign) : Type 0 where
  pub kept : KeepsSigns w d places
  pub front : take (w * w) places ≡ signs_towards w sign d

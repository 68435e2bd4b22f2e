-- An Unequal puzzle with one of its items changed, and with one denied.
use Rattle.std.specs.Prelude.{ℕ, ◌+◌, ◌*◌, ◌%◌, ◌<◌, set}
use Rattle.unequal_game.specs.declared.unequal.item.Item.{Item}
use Rattle.unequal_game.specs.declared.unequal.item.Item.TheVariants.{RightSign, LowerSign, Given}
use Rattle.unequal_game.specs.declared.unequal.sign.Sign.TheVariants.{Absent, FirstGreater, SecondGreater}
use Rattle.unequal_game.specs.declared.unequal.sign.Sign.{Sign}
use Rattle.unequal_game.specs.Unequal.{UnequalValue, numbered_sign, right_sign, lower_sign}

-- the square of an item
abbrev pub item_cell : Item → ℕ
item_cell (RightSign cell) = cell
item_cell (LowerSign cell) = cell
item_cell (Given cell) = cell

-- the puzzle in which an item says a number, 0 where it is taken away
abbrev pub with_item : UnequalValue → Item → ℕ → UnequalValue
with_item v (RightSign cell) n =
    record { size = v.size; right = set v.right cell (numbered_sign n); below = v.below; givens = v.givens }
with_item v (LowerSign cell) n =
    record { size = v.size; right = v.right; below = set v.below cell (numbered_sign n); givens = v.givens }
with_item v (Given cell) n = record { size = v.size; right = v.right; below = v.below; givens = set v.givens cell n }

-- the item has a place on a grid of the width: a sign stands between two squares of it
abbrev pub HasPlace : ℕ → Item → Type 0
HasPlace w (RightSign cell) = (cell < w * w) × (cell % w + 1 < w)
HasPlace w (LowerSign cell) = (cell < w * w) × (cell + w < w * w)
HasPlace w (Given cell) = (cell < w * w) × (cell < w * w)

-- the sign that says the opposite
abbrev pub turned_sign : Sign → Sign
turned_sign Absent = Absent
turned_sign FirstGreater = SecondGreater
turned_sign SecondGreater = FirstGreater

-- the puzzle with a sign turned round, or without a given
abbrev pub denied_item : UnequalValue → Item → UnequalValue
denied_item v (RightSign cell) =
    record {
      size = v.size;
      right = set v.right cell (turned_sign (right_sign v cell));
      below = v.below;
      givens = v.givens;
    }
denied_item v (LowerSign cell) =
    record {
      size = v.size;
      right = v.right;
      below = set v.below cell (turned_sign (lower_sign v cell));
      givens = v.givens;
    }
denied_item v (Given cell) = with_item v (Given cell) 0

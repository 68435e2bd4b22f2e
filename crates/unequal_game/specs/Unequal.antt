-- Unequal puzzles: signs between neighbouring squares and givens, the grids that hold the signs, and the items.
--
-- A sign stands between a square and its right or its lower neighbour. That square is the sign's first one.
use Rattle.std.specs.Prelude.{◌≡◌, ℕ, ◌+◌, ◌-◌, ◌*◌, ◌/◌, ◌%◌, ◌<◌, ◌⊎◌, ◌==◌, ◌&&◌, ◌||◌, nat_lt, Bool, true, false}
use Rattle.std.specs.Prelude.{if◌then◌else◌, List, length, slice_index_or, Option, Some, None, zero, map, slice_index, replicate}
use Rattle.std.specs.Option.{option_map_or}
use Rattle.std.specs.List.{range_with_len, list_all}
use Rattle.latin_board.specs.Squares.{GridValue, IsGrid, number_at}
use Rattle.unequal_game.specs.declared.unequal.direction.Direction.{Direction}
use Rattle.unequal_game.specs.declared.unequal.direction.Direction.TheVariants.{Up, Right, Down, Left}
use Rattle.unequal_game.specs.declared.unequal.item.Item.{Item}
use Rattle.unequal_game.specs.declared.unequal.item.Item.TheVariants.{RightSign, LowerSign, Given}
use Rattle.unequal_game.specs.declared.unequal.sign.Sign.{Sign}
use Rattle.unequal_game.specs.declared.unequal.sign.Sign.TheVariants.{Absent, FirstGreater, SecondGreater}
use Rattle.trail_solver.specs.Items.{kept_items}
use Rattle.trail_solver.specs.Puzzles.{Puzzle}

-- a width, and for each square the sign towards its right neighbour, that towards its lower neighbour, and its number,
-- 0 where none is given
pub record UnequalValue : Type 0 where
  pub size : ℕ
  pub right : List Sign
  pub below : List Sign
  pub givens : List ℕ

-- the givens as a grid, blank where none is
abbrev pub unequal_given_grid : UnequalValue → GridValue
unequal_given_grid v = record { size = v.size; numbers = v.givens }

-- the neighbour of a square in a direction, where the grid has one
abbrev pub neighbour : ℕ → ℕ → Direction → Option ℕ
neighbour w cell Up = if nat_lt cell w then None else Some (cell - w)
neighbour w cell Right = if cell % w + 1 == w then None else Some (cell + 1)
neighbour w cell Down = if nat_lt (cell + w) (w * w) then Some (cell + w) else None
neighbour w cell Left = if cell % w == 0 then None else Some (cell - 1)

-- b is a square beside, above or below the square a
pub record AreNeighbours (w a b : ℕ) : Type 0 where
  pub inside : a < w * w
  pub direction : Direction
  pub points : neighbour w a direction ≡ Some b

-- the sign between a square and its right neighbour
abbrev pub right_sign : UnequalValue → ℕ → Sign
right_sign v cell = slice_index_or v.right cell Absent

-- the sign between a square and its lower neighbour
abbrev pub lower_sign : UnequalValue → ℕ → Sign
lower_sign v cell = slice_index_or v.below cell Absent

-- what each puzzle of the program keeps: where the grid ends no sign stands
pub record IsUnequal (v : UnequalValue) : Type 0 where
  pub givens : IsGrid (unequal_given_grid v)
  pub right_count : length v.right ≡ v.size * v.size
  pub right_ends : (cell : ℕ) → neighbour v.size cell Right ≡ None → right_sign v cell ≡ Absent
  pub below_count : length v.below ≡ v.size * v.size
  pub below_ends : (cell : ℕ) → neighbour v.size cell Down ≡ None → lower_sign v cell ≡ Absent

-- the sign between two squares, absent where the second is neither the right nor the lower neighbour of the first
abbrev pub sign_between : UnequalValue → ℕ → ℕ → Sign
sign_between v first second =
    if second == first + 1 then right_sign v first
    else (if second == first + v.size then lower_sign v first else Absent)

-- the sign between the squares a and b, of which either may be the first, says that a holds the greater number
abbrev pub IsGreater : UnequalValue → ℕ → ℕ → Type 0
IsGreater v a b = (sign_between v a b ≡ FirstGreater) ⊎ (sign_between v b a ≡ SecondGreater)

-- the sign says that its first square holds the greater number
abbrev pub says_first : Sign → Bool
says_first FirstGreater = true
says_first Absent = false
says_first SecondGreater = false

-- the sign says that its second square holds the greater number
abbrev pub says_second : Sign → Bool
says_second SecondGreater = true
says_second Absent = false
says_second FirstGreater = false

-- `IsGreater` as a test that computes
abbrev pub is_greater : UnequalValue → ℕ → ℕ → Bool
is_greater v a b = says_first (sign_between v a b) || says_second (sign_between v b a)

-- the grid's number at a is greater than that at b wherever the puzzle says so
pub record HoldsSigns (v : UnequalValue) (g : GridValue) : Type 0 where
  pub each : (a b : ℕ) → IsGreater v a b → number_at g b < number_at g a

-- two numbers are as the sign between them says
abbrev pub holds_sign : Sign → ℕ → ℕ → Bool
holds_sign Absent x y = true
holds_sign FirstGreater x y = nat_lt y x
holds_sign SecondGreater x y = nat_lt x y

-- the numbers of a square and of its neighbour in a direction, where it has one, are as the sign between them says
abbrev pub holds_towards : UnequalValue → GridValue → ℕ → Direction → Bool
holds_towards v g cell d =
    option_map_or (λ other. holds_sign (sign_between v cell other) (number_at g cell) (number_at g other))
    (neighbour v.size cell d) true

-- the numbers of each square and of its right and its lower neighbour are as the sign between them says
abbrev pub holds_signs : UnequalValue → GridValue → Bool
holds_signs v g =
    list_all (λ cell. holds_towards v g cell Right && holds_towards v g cell Down) (range_with_len 0 (v.size * v.size))

-- what generic code knows of the puzzle: no edge has a clue
abbrev pub unequal_puzzle : UnequalValue → Puzzle
unequal_puzzle v = record {
  size = v.size;
  given = λ cell. slice_index v.givens cell;
  meets = holds_signs v;
  clued = λ place. false;
}

-- how many pairs of neighbours the rows have, and as many have the columns
abbrev pub pairs_across : ℕ → ℕ
pairs_across w = w * (w - 1)

-- how many items a puzzle of a width can have: its signs, and after them its givens
abbrev pub unequal_items : ℕ → ℕ
unequal_items w = 2 * pairs_across w + w * w

-- the item of a number: the signs in each row from the top and the left, then those below each square, then the givens
abbrev pub item_at : ℕ → ℕ → Item
item_at w i =
    if nat_lt i (pairs_across w) then RightSign (i / (w - 1) * w + i % (w - 1))
    else (if nat_lt i (2 * pairs_across w) then LowerSign (i - pairs_across w) else Given (i - 2 * pairs_across w))

-- the number of an item
abbrev pub item_number : ℕ → Item → ℕ
item_number w (RightSign cell) = cell / w * (w - 1) + cell % w
item_number w (LowerSign cell) = pairs_across w + cell
item_number w (Given cell) = 2 * pairs_across w + cell

-- the sign says something
abbrev pub is_present : Sign → Bool
is_present Absent = false
is_present FirstGreater = true
is_present SecondGreater = true

-- whether the puzzle has the item
abbrev pub has_item : UnequalValue → Item → Bool
has_item v (RightSign cell) = is_present (right_sign v cell)
has_item v (LowerSign cell) = is_present (lower_sign v cell)
has_item v (Given cell) = nat_lt 0 (slice_index v.givens cell)

-- whether the puzzle has the item of a number
abbrev pub has_unequal : UnequalValue → ℕ → Bool
has_unequal v i = has_item v (item_at v.size i)

-- the number by which an item says a sign: 1 where its first square holds the greater number, 2 where its second does
abbrev pub sign_number : Sign → ℕ
sign_number Absent = 0
sign_number FirstGreater = 1
sign_number SecondGreater = 2

-- the sign of a number
abbrev pub numbered_sign : ℕ → Sign
numbered_sign n = if n == 0 then Absent else (if n == 1 then FirstGreater else SecondGreater)

-- what an item says, 0 where the puzzle hasn't it
abbrev pub item_says : UnequalValue → Item → ℕ
item_says v (RightSign cell) = sign_number (right_sign v cell)
item_says v (LowerSign cell) = sign_number (lower_sign v cell)
item_says v (Given cell) = slice_index v.givens cell

-- what the item of a number says
abbrev pub unequal_says : UnequalValue → ℕ → ℕ
unequal_says v i = item_says v (item_at v.size i)

-- the most that an item can say
abbrev pub item_most : ℕ → Item → ℕ
item_most w (RightSign cell) = 2
item_most w (LowerSign cell) = 2
item_most w (Given cell) = w

-- the most that the item of a number can say
abbrev pub unequal_most : ℕ → ℕ → ℕ
unequal_most w i = item_most w (item_at w i)

-- the number of the item of a square's given
abbrev pub given_item : ℕ → ℕ → ℕ
given_item w cell = item_number w (Given cell)

-- the number of the item of the sign between two squares, where the second is the right or the lower neighbour of the first
abbrev pub sign_item : ℕ → ℕ → ℕ → Option ℕ
sign_item w first second =
    if (second == first + 1) && nat_lt (first % w + 1) w then Some (item_number w (RightSign first))
    else (if second == first + w then Some (item_number w (LowerSign first)) else None)

-- the puzzle of a width without any item
abbrev pub blank_unequal : ℕ → UnequalValue
blank_unequal w = record {
  size = w;
  right = replicate (w * w) Absent;
  below = replicate (w * w) Absent;
  givens = replicate (w * w) 0;
}

-- whether the item of a kind at a square is in a set of item numbers
abbrev pub keeps_kind : ℕ → (ℕ → Bool) → (ℕ → Item) → ℕ → Bool
keeps_kind w keep kind cell = keep (item_number w (kind cell))

-- the puzzle without its items outside a set
abbrev pub cut_unequal : UnequalValue → (ℕ → Bool) → UnequalValue
cut_unequal v keep = record {
  size = v.size;
  right = kept_items Absent (keeps_kind v.size keep RightSign) 0 v.right;
  below = kept_items Absent (keeps_kind v.size keep LowerSign) 0 v.below;
  givens = kept_items zero (keeps_kind v.size keep Given) 0 v.givens;
}

-- the sign between a square and its neighbour in a direction, where there is one, by a rule
abbrev pub sign_towards : ℕ → (ℕ → ℕ → Sign) → Direction → ℕ → Sign
sign_towards w sign d cell = option_map_or (sign cell) (neighbour w cell d) Absent

-- the signs of all squares towards their neighbours in a direction, by a rule
abbrev pub signs_towards : ℕ → (ℕ → ℕ → Sign) → Direction → List Sign
signs_towards w sign d = map (sign_towards w sign d) (range_with_len 0 (w * w))

-- the puzzle with these givens and the signs that a rule gives between each two neighbours
abbrev pub signed_puzzle : ℕ → (ℕ → ℕ → Sign) → List ℕ → UnequalValue
signed_puzzle w sign givens = record {
  size = w;
  right = signs_towards w sign Right;
  below = signs_towards w sign Down;
  givens = givens;
}

-- the sign that two numbers give
abbrev pub sign_of : ℕ → ℕ → Sign
sign_of x y = if nat_lt y x then FirstGreater else (if nat_lt x y then SecondGreater else Absent)

-- the sign that the numbers of two squares give
abbrev pub sign_in_grid : GridValue → ℕ → ℕ → Sign
sign_in_grid g a b = sign_of (number_at g a) (number_at g b)

-- the puzzle that has every item of a grid: the sign of each two neighbours, and each square's number
abbrev pub full_unequal : GridValue → UnequalValue
full_unequal g = signed_puzzle g.size (sign_in_grid g) g.numbers

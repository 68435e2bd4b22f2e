-- Which item the numbers of a line `item` are of, and what it is to say.
use Rattle.std.specs.Prelude.{ℕ, ◌+◌, ◌*◌, ◌==◌, ◌&&◌, nat_lt, nat_le, Bool, true, if◌then◌else◌, ℤ, pos, Option, Some, None}
use Rattle.std.specs.Prelude.{option_map, option_and_then}
use Rattle.std.specs.Option.{option_or}
use Rattle.latin_board.specs.Edges.{edge_place}
use Rattle.needed_items.specs.declared.items.Items.{Ghosts as OfItems}
use Rattle.json_replies.specs.declared.desk.Change.{Change}
use Rattle.json_replies.specs.declared.item_words.ItemNumbers.{ItemNumbers}
use Rattle.json_replies.specs.declared.item_words.ItemNumbers.TheVariants.{Place, Sign}

-- the square at (x, y), if the grid has it
abbrev pub cell_at : ℕ → ℤ → ℤ → Option ℕ
cell_at w (pos x) (pos y) = if nat_lt x w && nat_lt y w then Some (y * w + x) else None
cell_at w _ _ = None

-- the item of the given of a square, or of the clue at a place of the edge, if the game has one there
abbrev pub place_item : {P : Type 0} → OfItems P → ℕ → ℤ → ℤ → Option ℕ
place_item items w x y =
    option_or (option_map (λ cell. items.given_item_of w cell) (cell_at w x y))
    (option_and_then (λ place. items.clue_item_of w place) (edge_place w x y))

-- the change by which an item says a value: it fits if it is asked rightly and the item can say the value
abbrev pub change_to : {P : Type 0} → OfItems P → ℕ → Bool → ℕ → ℕ → Change
change_to items w is_right item value =
    record { item = item; value = value; fits = is_right && nat_le value (items.most_of w item) }

-- what a sign says of its two squares the other way round
abbrev pub turned : ℕ → ℕ
turned n = if n == 1 then 2 else n

-- the sign between two squares: its first is the greater if n is 1, and there is none if n is 0. An item says 1 of that
-- one of its squares that is left or above
abbrev pub sign_change : {P : Type 0} → OfItems P → ℕ → ℕ → ℕ → ℕ → Option Change
sign_change items w first second n =
    option_or (option_map (λ i. change_to items w (nat_le n 1) i n) (items.sign_item_of w first second))
    (option_map (λ i. change_to items w (nat_le n 1) i (turned n)) (items.sign_item_of w second first))

-- the change that the numbers ask for, if there is such an item
abbrev pub change_at : {P : Type 0} → OfItems P → ℕ → ItemNumbers → Option Change
change_at items w (Place x y n) = option_map (λ i. change_to items w true i n) (place_item items w x y)
change_at items w (Sign x y u v n) =
    option_and_then (λ first. option_and_then (λ second. sign_change items w first second n) (cell_at w u v))
    (cell_at w x y)

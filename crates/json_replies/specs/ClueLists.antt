-- The clues of Towers and the signs of Unequal, each with whether it is an error.
use Rattle.std.specs.Prelude.{ℕ, ◌+◌, ◌*◌, nat_lt, Bool, List, [], ◌∷◌, ◌++◌, codes, if◌then◌else◌}
use Rattle.std.specs.List.{range_with_len}
use Rattle.serde_json.specs.Data.{Data, boolean, number, object, no_members, member}
use Rattle.serde_json.specs.Find.{of_integer}
use Rattle.latin_board.specs.Boards.{BoardValue, is_done}
use Rattle.latin_board.specs.Edges.{edge_xy}
use Rattle.towers_game.specs.Towers.{TowersValue, clue_of}
use Rattle.unequal_game.specs.Unequal.{UnequalValue, is_greater}
use Rattle.board_checks.specs.Errors.{ErrorsValue, has_broken}
use Rattle.board_checks.specs.declared.spot.Spot.TheVariants.{Edge, RightOf, Below}
use Rattle.json_replies.specs.Counts.{count_data}
use Rattle.json_replies.specs.Boards.{listed_data, when, squares}

-- an edge clue: its number, whether it is marked as done, whether it is an error, where it stands
abbrev pub clue_data : TowersValue → BoardValue → ErrorsValue → ℕ → Data
clue_data p b e place = object
    (member (codes "clue") (count_data (clue_of p place))
    (member (codes "done") (boolean (is_done b place))
    (member (codes "error") (boolean (has_broken e (Edge place)))
    (member (codes "x") (number (of_integer (edge_xy p.size place).0))
    (member (codes "y") (number (of_integer (edge_xy p.size place).1))
    no_members)))))

-- the clues that the puzzle has, in the order of descriptions
abbrev pub clues_data : TowersValue → BoardValue → ErrorsValue → Data
clues_data p b e =
    listed_data (λ place. when (nat_lt 0 (clue_of p place)) (clue_data p b e place)) (range_with_len 0 (4 * p.size))

-- a sign: whether it is an error, and of its squares the one that holds the greater number, and the other
abbrev pub sign_data : Bool → ℕ → ℕ → Data
sign_data error greater less = object
    (member (codes "error") (boolean error)
    (member (codes "greater") (count_data greater)
    (member (codes "less") (count_data less)
    no_members)))

-- the sign between a square and one with a later number, if the grid has that square and there is a sign
abbrev pub later_sign : UnequalValue → Bool → ℕ → ℕ → List Data
later_sign v error a b =
    if nat_lt b (v.size * v.size)
    then (if is_greater v a b then sign_data error a b ∷ [] else when (is_greater v b a) (sign_data error b a))
    else []

-- the signs of a square to its right and below it
abbrev pub signs_at : UnequalValue → ErrorsValue → ℕ → List Data
signs_at v e cell =
    later_sign v (has_broken e (RightOf cell)) cell (cell + 1)
    ++ later_sign v (has_broken e (Below cell)) cell (cell + v.size)

-- the signs that the puzzle has, square by square
abbrev pub signs_data : UnequalValue → ErrorsValue → Data
signs_data v e = listed_data (signs_at v e) (squares v.size)

-- The members of a step's object that tell its reason: its word, where it looks from, and what it speaks of.
use Rattle.std.specs.Prelude.{ℕ, ◌*◌, ◌&&◌, nat_lt, Bool, List, [], ◌∷◌, codes, if◌then◌else◌, Option, Some, None}
use Rattle.std.specs.List.{range_with_len}
use Rattle.serde_json.specs.Data.{Data, null, array}
use Rattle.serde_json.specs.View.{items_of}
use Rattle.number_sets.specs.Sets.{has_number}
use Rattle.latin_board.specs.Lines.{line_cell}
use Rattle.line_steps.specs.declared.reason.Reason.{Reason}
use Rattle.line_steps.specs.declared.reason.Reason.TheVariants.{Given, Peer, Place, Bound, Stand, Clue, Sign, Set}
use Rattle.json_replies.specs.declared.reason_parts.Ends.{Ends}
use Rattle.json_replies.specs.Boards.{listed_data, when, mark_set_data}
use Rattle.json_replies.specs.Counts.{count_data}

-- the word for its kind, the place of its clue, the squares of its sign, its row or column, its squares and its numbers
pub record ReasonParts : Type 0 where
  pub word : List ℕ
  pub edge : Option ℕ
  pub ends : Option Ends
  pub line : Data
  pub cells : Data
  pub numbers : Data

-- ---- the four forms of reasons

-- the list of one number
abbrev pub one_data : ℕ → Data
one_data n = array (items_of (count_data n ∷ []))

-- the parts of a reason that rests on a square
abbrev pub parts_of_square : List ℕ → ℕ → ReasonParts
parts_of_square word cell =
    record { word = word; edge = None; ends = None; line = null; cells = one_data cell; numbers = null }

-- the parts of a reason that looks from a clue at the edge
abbrev pub parts_of_edge : List ℕ → Option ℕ → ReasonParts
parts_of_edge word edge = record { word = word; edge = edge; ends = None; line = null; cells = null; numbers = null }

-- the parts of a reason that looks along a sign
abbrev pub parts_of_sign : List ℕ → Option Ends → ReasonParts
parts_of_sign word ends = record { word = word; edge = None; ends = ends; line = null; cells = null; numbers = null }

-- the parts of a reason that looks at squares and numbers of a row or column
abbrev pub parts_of_line : List ℕ → ℕ → Data → Data → ReasonParts
parts_of_line word line cells numbers =
    record { word = word; edge = None; ends = None; line = count_data line; cells = cells; numbers = numbers }

-- ---- what they speak of

-- the place of a clue, if the edge of the grid has it
abbrev pub edge_at : ℕ → ℕ → Option ℕ
edge_at w place = if nat_lt place (4 * w) then Some place else None

-- the squares of a sign between two squares of the grid, the greater one and the lesser one
abbrev pub ends_at : ℕ → (ℕ → ℕ → Bool) → ℕ → ℕ → Option Ends
ends_at w is_over a b =
    if nat_lt a (w * w) && nat_lt b (w * w)
    then (if is_over a b then Some (record { greater = a; less = b })
    else (if is_over b a then Some (record { greater = b; less = a }) else None))
    else None

-- the square at a place of a line, if the grid has it
abbrev pub place_data : ℕ → ℕ → ℕ → Data
place_data w line index = if nat_lt line (2 * w) && nat_lt index w then one_data (line_cell w line index) else null

-- the squares at some places of a line
abbrev pub line_cells_data : ℕ → ℕ → ℕ → Data
line_cells_data w line places =
    listed_data (λ k. when (has_number places k) (count_data (line_cell w line k))) (range_with_len 0 w)

-- the squares at some places of a line, or null if the grid has no such line
abbrev pub squares_data : ℕ → ℕ → ℕ → Data
squares_data w line places = if nat_lt line (2 * w) then line_cells_data w line places else null

-- ---- the parts of a reason

-- the parts of a reason, in a puzzle of a width with these signs
abbrev pub parts_of : ℕ → (ℕ → ℕ → Bool) → Reason → ReasonParts
parts_of w is_over (Given cell) = parts_of_square (codes "given") cell
parts_of w is_over (Peer cell) = parts_of_square (codes "peer") cell
parts_of w is_over (Place line index value) =
    parts_of_line (codes "place") line (place_data w line index) (one_data value)
parts_of w is_over (Bound place) = parts_of_edge (codes "bound") (edge_at w place)
parts_of w is_over (Stand place) = parts_of_edge (codes "stand") (edge_at w place)
parts_of w is_over (Clue place) = parts_of_edge (codes "clue") (edge_at w place)
parts_of w is_over (Sign from to) = parts_of_sign (codes "sign") (ends_at w is_over from to)
parts_of w is_over (Set line squares values) =
    parts_of_line (codes "set") line (squares_data w line squares) (mark_set_data values)

-- The line of squares that an edge place looks along, and the numbers of a grid on it.
use Rattle.std.specs.Prelude.{ℕ, ◌+◌, ◌-◌, ◌*◌, nat_lt, if◌then◌else◌, List, reverse}
use Rattle.latin_board.specs.Squares.{GridValue, row_of, column_of}
use Rattle.latin_board.specs.Lines.{line_cell}

-- one of four, by the edge at which a place stands: the upper, the lower, the left or the right one
abbrev pub by_edge : {A : Type 0} → ℕ → ℕ → A → A → A → A → A
by_edge w place upper lower left right =
    if nat_lt place w then upper
    else (if nat_lt place (2 * w) then lower
    else (if nat_lt place (3 * w) then left else right))

-- the line of a place: its column read down, its column read up, its row read to the right, its row read to the left
abbrev pub line_from : GridValue → ℕ → List ℕ
line_from g place =
    by_edge g.size place (column_of g place) (reverse (column_of g (place - g.size)))
    (row_of g (place - 2 * g.size)) (reverse (row_of g (place - 3 * g.size)))

-- the line of a place among the rows and columns
abbrev pub view_line : ℕ → ℕ → ℕ
view_line w place = by_edge w place (w + place) place (place - 2 * w) (place - 3 * w)

-- where in its line the k-th square from a place is
abbrev pub view_index : ℕ → ℕ → ℕ → ℕ
view_index w place k = by_edge w place k (w - 1 - k) k (w - 1 - k)

-- the k-th square from a place
abbrev pub view_cell : ℕ → ℕ → ℕ → ℕ
view_cell w place k = line_cell w (view_line w place) (view_index w place k)

-- the place before the first square of a line
abbrev pub front_place : ℕ → ℕ → ℕ
front_place w line = if nat_lt line w then 2 * w + line else line - w

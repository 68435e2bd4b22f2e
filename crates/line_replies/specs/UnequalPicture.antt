-- The picture of an Unequal board: w lines of squares, and a line of signs between each two of them.
use Rattle.std.specs.Prelude.{ℕ, ◌+◌, ◌-◌, ◌*◌, if◌then◌else◌, List, [], ◌∷◌, ◌++◌, map}
use Rattle.std.specs.List.{range_with_len, flat_map}
use Rattle.latin_board.specs.Boards.{BoardValue}
use Rattle.unequal_game.specs.Unequal.{UnequalValue, is_greater}
use Rattle.line_replies.specs.Symbols.{square_at, spaced_line}
use Rattle.byte_text.specs.Bytes.{line_feed, space, dash}

-- before a square: `<` where the one at its left is smaller, `>` where that one is greater
abbrev pub sign_before : UnequalValue → ℕ → ℕ
sign_before v right =
    if is_greater v right (right - 1) then 60 else (if is_greater v (right - 1) right then 62 else space)

-- above a square: `^` where the one above is smaller, `v` where that one is greater
abbrev pub sign_above : UnequalValue → ℕ → ℕ
sign_above v lower =
    if is_greater v lower (lower - v.size) then 94 else (if is_greater v (lower - v.size) lower then 118 else dash)

-- the row of squares that begins with a square, each but the first after its sign
abbrev pub squares_line : UnequalValue → BoardValue → ℕ → List ℕ
squares_line v b first =
    square_at b first
    ∷ (flat_map (λ x. sign_before v (first + x) ∷ square_at b (first + x) ∷ []) (range_with_len 1 (v.size - 1))
    ++ line_feed ∷ [])

-- the signs above the row that begins with a square
abbrev pub signs_line : UnequalValue → ℕ → List ℕ
signs_line v first = spaced_line (map (λ x. sign_above v (first + x)) (range_with_len 0 v.size))

-- the rows of squares, each but the first below its line of signs
abbrev pub unequal_picture : UnequalValue → BoardValue → List ℕ
unequal_picture v b =
    squares_line v b 0
    ++ flat_map (λ y. signs_line v (y * v.size) ++ squares_line v b (y * v.size)) (range_with_len 1 (v.size - 1))

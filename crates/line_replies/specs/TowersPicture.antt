-- The picture of a Towers board: w + 2 lines of w + 2 symbols, the clues round the squares.
use Rattle.std.specs.Prelude.{ℕ, ◌+◌, ◌*◌, ◌==◌, if◌then◌else◌, List, [], ◌∷◌, ◌++◌, map}
use Rattle.std.specs.List.{range_with_len, flat_map}
use Rattle.latin_board.specs.Boards.{BoardValue}
use Rattle.towers_game.specs.Towers.{TowersValue, clue_of}
use Rattle.line_replies.specs.Symbols.{square_at, spaced_line}
use Rattle.byte_text.specs.Bytes.{dash, digit}

-- the byte at the corners of the picture
abbrev pub corner : ℕ
corner = 43

-- an edge clue, or a dash where there is none
abbrev pub clue_symbol : ℕ → ℕ
clue_symbol clue = if clue == 0 then dash else digit clue

-- the symbol of the clue at a place
abbrev pub clue_at : TowersValue → ℕ → ℕ
clue_at p place = clue_symbol (clue_of p place)

-- the clues above or below the columns, of which the first is at a place, between two corners
abbrev pub clue_row : TowersValue → ℕ → List ℕ
clue_row p first = corner ∷ (map (λ x. clue_at p (first + x)) (range_with_len 0 p.size) ++ corner ∷ [])

-- a row of squares between its left and its right clue
abbrev pub towers_row : TowersValue → BoardValue → ℕ → List ℕ
towers_row p b y =
    clue_at p (2 * p.size + y)
    ∷ (map (λ x. square_at b (y * p.size + x)) (range_with_len 0 p.size) ++ clue_at p (3 * p.size + y) ∷ [])

-- the clues above, the rows, the clues below
abbrev pub towers_picture : TowersValue → BoardValue → List ℕ
towers_picture p b =
    spaced_line (clue_row p 0)
    ++ (flat_map (λ y. spaced_line (towers_row p b y)) (range_with_len 0 p.size) ++ spaced_line (clue_row p p.size))

-- The symbols of printed texts, and the lines that they make.
use Rattle.std.specs.Prelude.{ℕ, ◌==◌, if◌then◌else◌, List, [], ◌∷◌, ◌++◌, map}
use Rattle.std.specs.List.{join_with_byte}
use Rattle.latin_board.specs.Squares.{number_at}
use Rattle.latin_board.specs.Boards.{BoardValue, grid_of}
use Rattle.byte_text.specs.Bytes.{line_feed, space, dot, digit}

-- a square's number, or a dot where the square is empty
abbrev pub square_symbol : ℕ → ℕ
square_symbol n = if n == 0 then dot else digit n

-- the symbol of a square of the board
abbrev pub square_at : BoardValue → ℕ → ℕ
square_at b cell = square_symbol (number_at (grid_of b) cell)

-- symbols with one space between, as a line
abbrev pub spaced_line : List ℕ → List ℕ
spaced_line symbols = join_with_byte space (map (λ symbol. symbol ∷ []) symbols) ++ line_feed ∷ []

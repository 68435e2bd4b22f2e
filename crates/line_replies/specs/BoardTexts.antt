-- The texts of a board that the commands for marks, the status and done clues print.
use Rattle.std.specs.Prelude.{ℕ, ◌*◌, ◌/◌, ◌%◌, ◌==◌, if◌then◌else◌, List, [], ◌∷◌, ◌++◌, length, map, filter, codes}
use Rattle.std.specs.List.{range_with_len, flat_map}
use Rattle.std.specs.Fmt.{decimal}
use Rattle.number_sets.specs.Sets.{has_number}
use Rattle.latin_board.specs.Boards.{BoardValue, marks_at, is_done}
use Rattle.latin_board.specs.Edges.{edge_xy}
use Rattle.play_midend.specs.MoveTexts.{coordinate_text}
use Rattle.byte_text.specs.Bytes.{line_feed, space, comma, slash, colon, digit}

-- the lines, or a sentence where there is none
abbrev pub lines_or : List ℕ → List ℕ → List ℕ
lines_or sentence lines = if length lines == 0 then sentence ++ line_feed ∷ [] else lines

-- the numbers of a set of marks, as digits in rising order
abbrev pub mark_digits : ℕ → List ℕ
mark_digits marks = map digit (filter (has_number marks) (range_with_len 1 9))

-- the line of a square, if it has marks: its place and its marks
abbrev pub marks_line : BoardValue → ℕ → List ℕ
marks_line b cell =
    if length (mark_digits (marks_at b cell)) == 0 then []
    else digit (cell % b.size) ∷ comma ∷ digit (cell / b.size) ∷ colon
    ∷ (mark_digits (marks_at b cell) ++ line_feed ∷ [])

-- the lines of the squares that have marks, or a sentence where none has
abbrev pub marks_lines : BoardValue → List ℕ
marks_lines b = lines_or (codes "no marks") (flat_map (marks_line b) (range_with_len 0 (b.size * b.size)))

-- the word for a board: helped if there was help, and otherwise solved or playing
abbrev pub status_word : BoardValue → List ℕ
status_word b = if b.cheated then codes "helped" else (if b.completed then codes "solved" else codes "playing")

-- the word for a board, the position and the number of states
abbrev pub status_words : BoardValue → ℕ → ℕ → List ℕ
status_words b position states = status_word b ++ (space ∷ (decimal position ++ (slash ∷ decimal states)))

-- the text of the coordinates of the edge clue at a place
abbrev pub place_text : ℕ → ℕ → List ℕ
place_text w place = coordinate_text (edge_xy w place).0 ++ (comma ∷ coordinate_text (edge_xy w place).1)

-- the line of an edge clue, if it is done
abbrev pub done_line : BoardValue → ℕ → List ℕ
done_line b place = if is_done b place then place_text b.size place ++ line_feed ∷ [] else []

-- the done clues in the order of descriptions
abbrev pub done_lines : BoardValue → List ℕ
done_lines b = lines_or (codes "no done clues") (flat_map (done_line b) (range_with_len 0 (4 * b.size)))

-- The texts that the commands `solve` and `list` print.
use Rattle.std.specs.Prelude.{◌≡◌, ℕ, ◌-◌, List, [], ◌∷◌, ◌++◌, length, slice_get, map, codes, Option, Some, None}
use Rattle.std.specs.List.{flat_map}
use Rattle.latin_board.specs.Squares.{GridValue}
use Rattle.play_midend.specs.declared.moves.Move.{Move}
use Rattle.play_midend.specs.declared.moves.Move.TheVariants.{Solve}
use Rattle.play_midend.specs.declared.fault.PlayFault.{PlayFault}
use Rattle.play_midend.specs.declared.fault.PlayFault.TheVariants.{NoSolution, SeveralSolutions}
use Rattle.play_midend.specs.MoveTexts.{move_text}
use Rattle.play_midend.specs.Histories.{History}
use Rattle.line_replies.specs.BoardTexts.{lines_or}
use Rattle.byte_text.specs.Bytes.{line_feed, digit}

-- the digits of a grid in reading order
abbrev pub grid_digits : GridValue → List ℕ
grid_digits g = map digit g.numbers

-- the digits of a grid in reading order, as a line
abbrev pub grid_line : GridValue → List ℕ
grid_line g = grid_digits g ++ line_feed ∷ []

-- the lines of some grids, or `none`
abbrev pub listed_lines : List GridValue → List ℕ
listed_lines listed = lines_or (codes "none") (flat_map grid_line listed)

-- the text of a move, as a line
abbrev pub move_line : Move → List ℕ
move_line m = move_text m ++ line_feed ∷ []

-- the last move of a session fills in this solution
abbrev pub EndsInSolution : {P : Type 0} → History P → GridValue → Type 0
EndsInSolution h g = slice_get h.moves (length h.moves - 1) ≡ Some (Solve g)

-- the text is the line of the solution that was filled in last
abbrev pub IsLastMove : {P : Type 0} → History P → List ℕ → Type 0
IsLastMove h text = (g : GridValue) × EndsInSolution h g × (text ≡ move_line (Solve g))

-- the sentence that stands for a refusal of `solve`, if any
abbrev pub solve_sentence : PlayFault → Option (List ℕ)
solve_sentence NoSolution = Some (codes "No solution exists for this puzzle" ++ line_feed ∷ [])
solve_sentence SeveralSolutions = Some (codes "Multiple solutions exist for this puzzle" ++ line_feed ∷ [])
solve_sentence _ = None

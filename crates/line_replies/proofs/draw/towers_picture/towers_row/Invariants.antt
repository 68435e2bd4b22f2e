use Rattle.std.proofs.Common.{◌≡◌, ◌+◌, ◌*◌, ◌≤◌, ◌∷◌, map}
use Rattle.std.specs.List.{range_with_len}
use Rattle.arrayvec.specs.ArrayVec.{array_vec_len}
use Rattle.line_replies.specs.Symbols.{square_at}
use Rattle.line_replies.specs.TowersPicture.{clue_at}
use Rattle.line_replies.proofs.draw.towers_picture.towers_row.Given as goal

abbrev pub invariant-loop-x : goal.invariant-loop-x
invariant-loop-x l =
    (l.symbols.items ≡ clue_at l.puzzle (2 * l.width + l.y) ∷ map (λ x. square_at l.board (l.first + x)) (range_with_len 0 l.x))
    × (array_vec_len l.symbols ≤ l.x + 1)

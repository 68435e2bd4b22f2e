use Rattle.std.proofs.Common.{◌≡◌, ◌+◌, ◌≤◌, ◌∷◌, map}
use Rattle.std.specs.List.{range_with_len}
use Rattle.arrayvec.specs.ArrayVec.{array_vec_len}
use Rattle.line_replies.specs.TowersPicture.{corner, clue_at}
use Rattle.line_replies.proofs.draw.towers_picture.clue_row.Given as goal

abbrev pub invariant-loop-x : goal.invariant-loop-x
invariant-loop-x l =
    (l.symbols.items ≡ corner ∷ map (λ x. clue_at l.puzzle (l.first + x)) (range_with_len 0 l.x)) × (array_vec_len l.symbols ≤ l.x + 1)

use Rattle.std.proofs.Common.{◌≡◌, ◌+◌, ◌-◌, [], ◌∷◌, ◌++◌}
use Rattle.std.specs.List.{range_with_len, flat_map}
use Rattle.line_replies.specs.Symbols.{square_at}
use Rattle.line_replies.specs.UnequalPicture.{sign_before}
use Rattle.line_replies.proofs.draw.unequal_picture.push_squares.Given as goal

abbrev pub invariant-loop-x : goal.invariant-loop-x
invariant-loop-x l =
    l.picture.items ≡ l.fn.picture.items ++ (square_at l.board l.first
    ∷ flat_map (λ x. sign_before l.puzzle (l.first + x) ∷ square_at l.board (l.first + x) ∷ []) (range_with_len 1 (l.x - 1)))

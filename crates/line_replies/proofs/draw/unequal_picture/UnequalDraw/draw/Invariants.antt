use Rattle.std.proofs.Common.{◌≡◌, ◌++◌, ◌*◌, ◌-◌}
use Rattle.std.specs.List.{range_with_len, flat_map}
use Rattle.line_replies.specs.UnequalPicture.{squares_line, signs_line}
use Rattle.line_replies.proofs.draw.unequal_picture.UnequalDraw.draw.Given as goal

abbrev pub invariant-loop-y : goal.invariant-loop-y
invariant-loop-y l =
    l.picture.items ≡ squares_line l.self l.board 0
    ++ flat_map (λ y. signs_line l.self (y * l.self.size) ++ squares_line l.self l.board (y * l.self.size)) (range_with_len 1 (l.y - 1))

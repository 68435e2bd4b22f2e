use Rattle.std.proofs.Common.{◌≡◌, ◌++◌}
use Rattle.std.specs.List.{range_with_len, flat_map}
use Rattle.line_replies.specs.Symbols.{spaced_line}
use Rattle.line_replies.specs.TowersPicture.{clue_row, towers_row}
use Rattle.line_replies.proofs.draw.towers_picture.TowersDraw.draw.Given as goal

abbrev pub invariant-loop-y : goal.invariant-loop-y
invariant-loop-y l =
    l.picture.items ≡ spaced_line (clue_row l.self 0) ++ flat_map (λ y. spaced_line (towers_row l.self l.board y)) (range_with_len 0 l.y)

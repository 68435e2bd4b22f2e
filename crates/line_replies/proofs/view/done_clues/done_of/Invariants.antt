use Rattle.std.proofs.Common.{◌≡◌, ◌*◌, ◌≤◌}
use Rattle.std.specs.List.{range_with_len, flat_map}
use Rattle.arrayvec.specs.ArrayVec.{array_vec_len}
use Rattle.line_replies.specs.BoardTexts.{done_line}
use Rattle.line_replies.proofs.view.done_clues.done_of.Given as goal

abbrev pub invariant-loop-place : goal.invariant-loop-place
invariant-loop-place l =
    (l.text.items ≡ flat_map (done_line l.board) (range_with_len 0 l.place)) × (array_vec_len l.text ≤ 5 * l.place)

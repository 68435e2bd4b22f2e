use Rattle.std.proofs.Common.{◌≡◌, ◌+◌, ◌≤◌, map}
use Rattle.std.specs.List.{range_with_len}
use Rattle.arrayvec.specs.ArrayVec.{array_vec_len}
use Rattle.line_replies.specs.UnequalPicture.{sign_above}
use Rattle.line_replies.proofs.draw.unequal_picture.push_signs.Given as goal

abbrev pub invariant-loop-x : goal.invariant-loop-x
invariant-loop-x l =
    (l.signs.items ≡ map (λ x. sign_above l.puzzle (l.first + x)) (range_with_len 0 l.x)) × (array_vec_len l.signs ≤ l.x)

use Rattle.std.proofs.Common.{◌≡◌, ◌+◌, ◌-◌, ◌≤◌, map, filter}
use Rattle.std.specs.List.{range_with_len}
use Rattle.arrayvec.specs.ArrayVec.{array_vec_len}
use Rattle.number_sets.specs.Sets.{has_number}
use Rattle.line_replies.proofs.view.pencil_marks.mark_digits.Given as goal
use Rattle.byte_text.specs.Bytes.{digit}

abbrev pub invariant-loop-n : goal.invariant-loop-n
invariant-loop-n l =
    (l.digits.items ≡ map digit (filter (has_number l.marks) (range_with_len 1 (l.n - 1)))) × (array_vec_len l.digits + 1 ≤ l.n)

use Rattle.std.proofs.Common.{◌≡◌, ℕ, ◌-◌, true, false, map, filter, subst, arith}
use Rattle.std.specs.List.{range_with_len}
use Rattle.number_sets.specs.Sets.{has_number}
use Rattle.line_replies.proofs.Ranges.{filter_kept, filter_dropped}
use Rattle.line_replies.proofs.view.pencil_marks.mark_digits.Goals as goal
use Rattle.line_replies.proofs.view.pencil_marks.mark_digits.Goals.{then-has, else-has}
use Rattle.byte_text.specs.Bytes.{digit}

pub loop-n-preserved : goal.loop-n-preserved
loop-n-preserved c =
    elim c.if-has.branch [
      | then-has w ↦ let has : has_number c.args.marks c.loop-n.n ≡ true = cc in (
        filter_kept digit (has_number c.args.marks) _ _ 1 (c.loop-n.n - 1) _ _ (omega arith)
            (omega arith) has c.loop-n.invariant.0 (cc),
        rw w.digits-is (omega arith),
      )
      | else-has w ↦ let lacks : has_number c.args.marks c.loop-n.n ≡ false = cc in (
        filter_dropped digit (has_number c.args.marks) _ _ 1 (c.loop-n.n - 1) _ _ (omega arith)
            (omega arith) lacks c.loop-n.invariant.0 (cc),
        rw w.digits-is (omega arith),
      )
    ]

pub returns : goal.returns
returns c =
    let end : c.loop-n.n ≡ 10 = omega arith in
    let P : ℕ → Type 0 = λ n. c.loop-n.digits.items ≡ map digit (filter (has_number c.args.marks) (range_with_len 1 (n - 1))) in
    subst P end c.loop-n.invariant.0

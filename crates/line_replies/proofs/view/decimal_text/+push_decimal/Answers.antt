use Rattle.std.proofs.Common.{ℕ, ap, arith, length, length-append}
use Rattle.line_replies.proofs.DecimalDigits.{length_step, length_digit, ends_step, ends_digit}
use Rattle.line_replies.proofs.view.decimal_text.+push_decimal.Goals as goal
use Rattle.line_replies.proofs.view.decimal_text.+push_decimal.Goals.{then-n-ge10, else-n-ge10}

pub push_decimal-requires : goal.push_decimal-requires
push_decimal-requires t c = (omega arith, omega (arith, length_step c.args.n (omega arith) (omega arith)))

pub push_digit-requires-clause-room : goal.push_digit-requires-clause-room
push_digit-requires-clause-room t c =
    elim c.if-n-ge10.branch [
      | then-n-ge10 w ↦
          let digits = length_step c.args.n (omega arith) (omega arith) in
          rw w.text-is (omega (arith, digits, ap length w.push_decimal.ensures, length-append {A = ℕ}))
      | else-n-ge10 w ↦ rw w.text-is (omega (arith, length_digit c.args.n (omega arith)))
    ]

pub returns : goal.returns
returns t c =
    elim c.if-n-ge10.branch [
      | then-n-ge10 w ↦ ends_step c.args.n _ w.push_decimal.new.text.bytes _ (omega arith) (omega arith) w.push_decimal.ensures
          (rw (← w.text-is) c.push_digit.ensures)
      | else-n-ge10 w ↦ ends_digit c.args.n _ _ (omega arith) (rw (← w.text-is) c.push_digit.ensures)
    ]

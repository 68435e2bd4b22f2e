use Rattle.std.proofs.Common.{arith}
use Rattle.line_replies.proofs.DecimalDigits.{length_ascii}
use Rattle.line_replies.proofs.view.decimal_text.push_digit.Goals as goal

pub push-requires : goal.push-requires
push-requires c = (omega arith, omega (arith, length_ascii c.from.result (omega arith)))

use Rattle.std.proofs.Common.{ap, arith, length}
use Rattle.std.proofs.lemmas.Fmt.{length-decimal-le}
use Rattle.line_replies.proofs.view.decimal_text.decimal_text.Goals as goal

pub push_decimal-requires : goal.push_decimal-requires
push_decimal-requires c = omega (arith, length-decimal-le 20 c.args.n, ap length c.new-text.ensures)

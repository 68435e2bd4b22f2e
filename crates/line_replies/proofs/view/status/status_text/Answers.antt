use Rattle.std.proofs.Common.{ap, arith, length}
use Rattle.std.proofs.lemmas.Fmt.{length-decimal-le}
use Rattle.line_replies.proofs.view.status.status_text.Goals as goal

pub push_str-requires-5 : goal.push_str-requires-5
push_str-requires-5 g c =
    let none = ap length c.new-text.ensures in
    let first = length-decimal-le 6 c.position.result in
    let second = length-decimal-le 6 c.states.result in
    let one = ap length c.decimal_text.ensures in
    let two = ap length c.decimal_text-2.ensures in
    let shown = ap length c.as_str.ensures.value in
    let told = ap length c.as_str-2.ensures.value in
    omega arith

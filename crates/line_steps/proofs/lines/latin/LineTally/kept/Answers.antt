use Rattle.std.proofs.Common.{arith}
use Rattle.line_steps.proofs.LineTallying.{kept_forced, kept_nothing}
use Rattle.line_steps.proofs.lines.latin.LineTally.kept.Goals as goal

pub returns-then-is_single-2 : goal.returns-then-is_single-2
returns-then-is_single-2 c =
    kept_forced c.args.self.now c.args.set c.forced-forced.result c.free-free.result c.intersection.result c.if-is_single-2.ensures.0
    c.if-is_single.ensures c.forced-forced.ensures c.free-free.ensures c.if-is_single-2.ensures.1 c.intersection.ensures.members

pub returns : goal.returns
returns c =
    kept_nothing c.args.self.now c.args.set c.forced-forced.result c.empty.result (omega (arith, c.bits-bits.ensures, c.bits-bits.type_inv))
    c.forced-forced.ensures c.if-is_empty.ensures.members c.if-is_single-2.ensures c.empty.ensures

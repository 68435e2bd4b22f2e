use Rattle.line_steps.proofs.LineTallying.{counted_more}
use Rattle.line_steps.proofs.lines.latin.LineTally.with.Goals as goal

pub returns : goal.returns
returns c =
    counted_more c.args.self _ c.args.set c.if_single-single.result c.intersection.result c.if_single-single.ensures
    c.requires c.if-not-is_disjoint.ensures c.union.ensures.members c.intersection.ensures.members
    c.union-2.ensures.members c.union-3.ensures.members

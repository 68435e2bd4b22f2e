use Rattle.std.proofs.Common.{arith, ap, length}
use Rattle.line_replies.proofs.Coordinates.{negative_text, natural_text}
use Rattle.line_replies.proofs.view.done_clues.push_coordinate.Goals as goal

pub unwrap-requires : goal.unwrap-requires
unwrap-requires c =
    let two = ap length (negative_text c.args.coordinate c.ranges.coordinate c.requires.low c.if-coordinate-lt0.true) in
    c.try_extend_from_slice.ensures.variant.1 (omega (arith, two))

pub push-requires : goal.push-requires
push-requires c =
    let one = ap length (natural_text c.args.coordinate c.ranges.coordinate c.requires.high c.if-coordinate-lt0.false) in
    (omega arith, omega (arith, one))

use Rattle.std.proofs.Common.{ℕ, SFits, w8, rules, arith, ap, length, length-append}
use Rattle.line_replies.proofs.Coordinates.{place_fits}
use Rattle.line_replies.proofs.view.done_clues.place_text.Goals as goal

pub push_coordinate-requires-clause-room : goal.push_coordinate-requires-clause-room
push_coordinate-requires-clause-room c =
    let x : SFits w8 c.edge_xy-x.result.0 = search rules in
    let y : SFits w8 c.edge_xy-x.result.1 = search rules in
    let short = place_fits c.args.size c.args.place c.edge_xy-x.result c.edge_xy-x.ensures.value (omega arith) (omega arith) x y in
    let empty = ap length c.new-text.ensures in omega (arith, short, empty)

pub push-requires : goal.push-requires
push-requires c =
    let x : SFits w8 c.edge_xy-x.result.0 = search rules in
    let y : SFits w8 c.edge_xy-x.result.1 = search rules in
    let short = place_fits c.args.size c.args.place c.edge_xy-x.result c.edge_xy-x.ensures.value (omega arith) (omega arith) x y in
    let empty = ap length c.new-text.ensures in
    let x_len = ap length c.push_coordinate.ensures in
    (omega arith, omega (arith, short, empty, x_len, length-append {A = ℕ}))

pub push_coordinate-requires-2-clause-room : goal.push_coordinate-requires-2-clause-room
push_coordinate-requires-2-clause-room c =
    let x : SFits w8 c.edge_xy-x.result.0 = search rules in
    let y : SFits w8 c.edge_xy-x.result.1 = search rules in
    let short = place_fits c.args.size c.args.place c.edge_xy-x.result c.edge_xy-x.ensures.value (omega arith) (omega arith) x y in
    let empty = ap length c.new-text.ensures in
    let x_len = ap length c.push_coordinate.ensures in
    omega (arith, short, empty, x_len, length-append {A = ℕ})

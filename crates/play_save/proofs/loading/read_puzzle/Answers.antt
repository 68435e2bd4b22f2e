-- A puzzle that is read has the size.
use Rattle.std.proofs.Common.{◌≤◌, sym, ◌∙◌, arith}
use Rattle.play_save.proofs.loading.read_puzzle.Goals as goal

pub returns-in-Ok-clause-size : goal.returns-in-Ok-clause-size
returns-in-Ok-clause-size g c =
    let small : 3 ≤ c.args.size = omega arith in
    let large : c.args.size ≤ 9 = omega arith in
    let (describes, of, size) = g.met.P.Game.desc_taken c.args.size c.args.desc.now c.in-Ok.puzzle small large (sym c.read_desc.ensures ∙ c.in-Ok.is) in
    sym size

use Rattle.trail_solver.proofs.OneKept.{one_kept}
use Rattle.trail_solver.proofs.squares.keep_only.Goals as goal

pub returns-clause-kept : goal.returns-clause-kept
returns-clause-kept c =
    one_kept c.args.candidates.now c.remove_all.new.self c.args.cell c.args.value c.values.result c.one.result c.difference-others.result
    c.size-size.ensures.valid c.values.ensures c.one.ensures.members c.difference-others.ensures c.remove_all.ensures.size c.remove_all.ensures.trail

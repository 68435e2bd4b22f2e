use Rattle.std.proofs.Common.{sym, subst}
use Rattle.safe_save.specs.Changes.{ChangesGoOn}
use Rattle.safe_save.proofs.Growth.{grows}
use Rattle.safe_save.proofs.changes.add.Goals as goal

pub returns-clause-time : goal.returns-clause-time
returns-clause-time c = subst (ChangesGoOn c.args.changes.now.items) (sym c.in_ok-push.ensures.items) (grows c.args.changes.now.items _)

use Rattle.std.proofs.Common.{rules}
use Rattle.safe_save.specs.Folder.{Touched}
use Rattle.safe_save.specs.Changes.{image_of}
use Rattle.safe_save.proofs.Crashes.{touched, goes_on}
use Rattle.safe_save.proofs.changes.set_content.Goals as goal

pub returns-clause-crash : goal.returns-clause-crash
returns-clause-crash c =
    let others : Touched c.args.name.now (image_of c.args.changes.now.items) (image_of c.add.new.changes.items) = search rules in
    touched c.args.name.now c.args.changes.now.items c.add.new.changes.items others

pub returns-clause-time : goal.returns-clause-time
returns-clause-time c =
    goes_on (Touched c.args.name.now) c.args.changes.now.items c.add.new.changes.items c.add.ensures.time (returns-clause-crash c)

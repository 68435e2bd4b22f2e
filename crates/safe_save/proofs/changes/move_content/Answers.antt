use Rattle.std.proofs.Common.{◌≡◌, refl, rules}
use Rattle.std.specs.Prelude.{OnOk}
use Rattle.safe_save.specs.Folder.{MayMove, TouchedBoth}
use Rattle.safe_save.specs.Changes.{image_of}
use Rattle.safe_save.proofs.Crashes.{moved, not_moved, goes_on}
use Rattle.safe_save.proofs.changes.move_content.Goals as goal

pub returns-in_err-content-clause-crash : goal.returns-in_err-content-clause-crash
returns-in_err-content-clause-crash c = not_moved c.args.from.now c.args.to.now c.args.changes.now.items c.args.changes.now.items (λ n. refl)

pub returns-clause-crash : goal.returns-clause-crash
returns-clause-crash c =
    let old = c.args.changes.now.items in
    let new = c.add.new.changes.items in
    let there : OnOk c.add.result (image_of new c.args.to.now ≡ image_of old c.args.from.now) = search rules in
    let others : TouchedBoth c.args.from.now c.args.to.now (image_of old) (image_of new) = search rules in
    moved c.add.result c.args.from.now c.args.to.now old new there c.add.ensures.kept others

pub returns-clause-time : goal.returns-clause-time
returns-clause-time c =
    goes_on (MayMove c.args.from.now c.args.to.now) c.args.changes.now.items c.add.new.changes.items c.add.ensures.time (returns-clause-crash c)

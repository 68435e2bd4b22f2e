use Rattle.std.specs.Prelude.{◌≤◌, All, map, string_bytes}
use Rattle.safe_save.specs.Folder.{NoWider, Same}
use Rattle.safe_save.specs.Targets.{IsInUse}
use Rattle.safe_save.proofs.target.save_beside.Given as goal

-- so far each name was taken, and each name has what it had, for no more readers of the path
abbrev pub invariant-loop-beside : goal.invariant-loop-beside
invariant-loop-beside g l =
    g.F.Folder.tells → let old = g.F.Folder.state l.initial.folder in let new = g.F.Folder.state l.folder in
    Same old.stands new.stands × NoWider l.path l.path old new × (old.moment ≤ new.moment)
    × All (IsInUse l.path old) (map string_bytes l.yielded)

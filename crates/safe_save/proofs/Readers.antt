-- The users who may read a new file while it is filled.
use Rattle.std.proofs.Common.{arith}
use Rattle.std.proofs.lemmas.Bool.Decides.{nat_tests}
use Rattle.std.proofs.Common.{◌≡◌, ℕ, List, []}
use Rattle.std.specs.Prelude.{Some, Result, OnOk}
use Rattle.safe_save.specs.Folder.{FolderState, NoWider, WidensNone}

-- if a new file takes the rights of the old one, nobody else may read it once it is written and flushed
pub while_filled : {T E : Type 0} (result : Result T E) (name path bytes : List ℕ) (old took wrote new : FolderState) → NoWider name path old took → took.stands name ≡ Some [] → WidensNone took wrote → wrote.stands name ≡ Some bytes → WidensNone wrote new → OnOk result (NoWider name path old new)
while_filled result name path bytes old took wrote new rights empty writes written flushes = grind (arith, nat_tests)

-- The images that crashes leave over calls that come one after the other.
use Rattle.std.proofs.lemmas.Bool.Decides.{nat_tests}
use Rattle.std.proofs.Common.{◌≡◌, false, arith}
use Rattle.std.specs.Prelude.{Result, Ok, Err, OnOk, is_err}
use Rattle.safe_save.specs.Folder.{Image, FolderState, Elapses, LeavesOnly}

-- if all that a crash could leave has P, before a call and changed by it, so has all that it leaves meanwhile
pub over_first : (change : Image → Image → Type 0) (P : Image → Type 0) (old new : FolderState) → ((f : Image) → old.left_since old.moment f → P f) → ((f : Image) → (g : Image) × old.may_leave g × change g f → P f) → Elapses change old new → LeavesOnly old new P
over_first change P old new before during time = grind (arith, nat_tests)

-- one call more: if all that a crash could leave has P when this call changes it, P holds over all the calls
pub over_next : (change : Image → Image → Type 0) (P : Image → Type 0) (old mid new : FolderState) → LeavesOnly old mid P → ((f : Image) → (g : Image) × mid.may_leave g × change g f → P f) → Elapses change mid new → LeavesOnly old new P
over_next change P old mid new first during time = grind (arith, nat_tests)

-- if a result is no error, what holds at `Ok` holds
pub at_ok : {T E P : Type 0} (result : Result T E) → is_err result ≡ false → OnOk result P → P
at_ok (Ok value) fine fact = fact
at_ok (Err fault) fine fact = cc

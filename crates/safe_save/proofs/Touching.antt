-- Calls that touch one name, one after the other.
use Rattle.std.proofs.lemmas.Bool.Decides.{nat_tests}
use Rattle.std.proofs.Common.{ℕ, List, arith}
use Rattle.std.specs.Prelude.{Result, Ok, Err, OnOk}
use Rattle.safe_save.specs.Folder.{Image, FolderState, Touched, LeavesChanged, Elapses, KeepsFaults}
use Rattle.safe_save.specs.Save.{TouchesOnly}

-- a crash since this moment can have left only what a crash may leave now
abbrev pub IsNow : FolderState → Type 0
IsNow state = (f : Image) → state.left_since state.moment f → state.may_leave f

-- one call that touches a name alone, also in a crash, touches only that name at any moment
pub by_call : (name : List ℕ) (old new : FolderState) → IsNow old → Touched name old.stands new.stands → LeavesChanged (Touched name) old new → Elapses (Touched name) old new → KeepsFaults old new → TouchesOnly name old new
by_call name old new now others crash time faults = grind (arith, nat_tests)

-- if two runs of calls touch only one name, so do both, one after the other
pub then : (name : List ℕ) (old mid new : FolderState) → TouchesOnly name old mid → TouchesOnly name mid new → TouchesOnly name old new
then name old mid new first second = grind (arith, nat_tests)

-- if two facts hold at `Ok`, so does the fact that they give together
pub both : {T E P Q R : Type 0} (result : Result T E) → OnOk result P → OnOk result Q → (P → Q → R) → OnOk result R
both (Ok value) p q gives = gives p q
both (Err fault) p q gives = tt

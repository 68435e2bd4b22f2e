-- The promises of a save.
use Rattle.std.specs.Prelude.{◌≡◌, ◌⊎◌, ℕ, List, Some, IsSome, Result, Err}
use Rattle.safe_save.specs.Folder.{Image, FolderState, Touched, LeavesChanged, LeavesOnly, KeepsFaults, FailedWith, HasFailed}
use Rattle.safe_save.specs.declared.folder.FolderCall.{FolderCall}
use Rattle.safe_save.specs.declared.folder.FolderCall.TheVariants.{OpenNew, Write, TakeAfter, Flush, Rename, Overwrite, Remove}
use Rattle.safe_save.specs.declared.folder.FolderFault.TheVariants.{Refused}
use Rattle.safe_save.specs.declared.saving.SaveFault.{SaveFault}
use Rattle.safe_save.specs.declared.saving.SaveFault.TheVariants.{Taken, NotSaved, LeftBeside}

-- the file at the name has these bytes, and each crash leaves them there
pub record IsStored (name bytes : List ℕ) (state : FolderState) : Type 0 where
  pub stands : state.stands name ≡ Some bytes
  pub durable : (f : Image) → state.may_leave f → f name ≡ Some bytes

-- the new file has the bytes, and each crash leaves them there or at the path
pub record IsLeftBeside (path beside bytes : List ℕ) (state : FolderState) : Type 0 where
  pub stands : state.stands beside ≡ Some bytes
  pub durable : (f : Image) → state.may_leave f → (f beside ≡ Some bytes) ⊎ (f path ≡ Some bytes)

-- the save was given up before it came to the path
abbrev pub IsGivenUp : {T : Type 0} → Result T SaveFault → Type 0
IsGivenUp (Err Taken) = Unit {0}
IsGivenUp (Err NotSaved) = Unit {0}
IsGivenUp result = ⊥

-- no new file is left: the save was given up, or its bytes are at the path
abbrev pub IsCleared : {T : Type 0} → Result T SaveFault → Type 0
IsCleared (Err LeftBeside) = ⊥
IsCleared result = Unit {0}

-- a rename was refused
abbrev pub RenameRefused : FolderState → FolderState → Type 0
RenameRefused old new = FailedWith Rename Refused old new

-- at the name stands what stood there
abbrev pub KeepsName : List ℕ → FolderState → FolderState → Type 0
KeepsName name old new = new.stands name ≡ old.stands name

-- at the path stands what stood there, unless a rename was refused and an overwrite failed
abbrev pub KeepsPath : List ℕ → FolderState → FolderState → Type 0
KeepsPath path old new = KeepsName path old new ⊎ (RenameRefused old new × HasFailed Overwrite old new)

-- beside stands what stood there, unless a removal failed
abbrev pub KeepsBeside : List ℕ → FolderState → FolderState → Type 0
KeepsBeside beside old new = KeepsName beside old new ⊎ HasFailed Remove old new

-- a call is one of those that make and fill the new file
abbrev pub MakesNewFile : FolderCall → Type 0
MakesNewFile OpenNew = Unit {0}
MakesNewFile TakeAfter = Unit {0}
MakesNewFile Write = Unit {0}
MakesNewFile Flush = Unit {0}
MakesNewFile call = ⊥

-- a call that makes or fills the new file has failed
abbrev pub FillFailed : FolderState → FolderState → Type 0
FillFailed old new = (call : FolderCall) × MakesNewFile call × HasFailed call old new

-- at the path the image has what a crash could have left there before
abbrev pub CouldStand : List ℕ → FolderState → Image → Type 0
CouldStand path old f = (g : Image) × old.may_leave g × (f path ≡ g path)

-- the path has the bytes, or what a crash could have left there before; or a rename was refused and the new file has
-- the bytes
abbrev pub IsOldOrNew : List ℕ → List ℕ → List ℕ → FolderState → FolderState → Image → Type 0
IsOldOrNew path beside bytes old new f =
    (f path ≡ Some bytes) ⊎ CouldStand path old f ⊎ (RenameRefused old new × (f beside ≡ Some bytes))

-- the path or the new file has the bytes
abbrev pub IsAtEither : List ℕ → List ℕ → List ℕ → Image → Type 0
IsAtEither path beside bytes f = (f path ≡ Some bytes) ⊎ (f beside ≡ Some bytes)

-- if a file stood at the path, only users who could read it or the new file may read what is there now
abbrev pub ReadAsEither : List ℕ → List ℕ → FolderState → FolderState → Type 0
ReadAsEither path beside old new =
    IsSome (old.stands path) → (user : ℕ) → new.may_read path user → old.may_read path user ⊎ old.may_read beside user

-- an image that a crash could have left before, changed at this name alone
abbrev pub IsTouchedFrom : List ℕ → FolderState → Image → Type 0
IsTouchedFrom name old f = (g : Image) × old.may_leave g × Touched name g f

-- this name alone has changed, now and in a crash at any moment since, and no fault is forgotten
pub record TouchesOnly (name : List ℕ) (old new : FolderState) : Type 0 where
  pub others : Touched name old.stands new.stands
  pub crash : LeavesChanged (Touched name) old new
  pub any_moment : LeavesOnly old new (IsTouchedFrom name old)
  pub faults : KeepsFaults old new

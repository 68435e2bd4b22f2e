-- The report on a save that failed.
use Rattle.std.specs.Prelude.{◌≡◌, ◌⊎◌, ℕ, List, All, Some, IsSome, string_bytes}
use Rattle.std.specs.IoError.{error_kind}
use Rattle.std.specs.declared.io.ErrorKind.TheVariants.{AlreadyExists, Other}
use Rattle.safe_save.specs.Folder.{FolderState, HasFailed}
use Rattle.safe_save.specs.Save.{FillFailed, IsLeftBeside, KeepsName}
use Rattle.safe_save.specs.declared.folder.FolderCall.TheVariants.{FlushFolder, Rename}
use Rattle.safe_save.specs.declared.target.Unsaved.{Unsaved}
use Rattle.safe_save.specs.declared.target.Unsaved.TheVariants.{Failed, LeftBeside}

-- what is told is true: of `LeftBeside`, that the bytes stand at the path it names, and a crash leaves them
-- there or at the path of the save; of `Failed`, that this path has what it had, or the bytes
abbrev pub IsToldOfUnsaved : List ℕ → List ℕ → FolderState → FolderState → Unsaved → Type 0
IsToldOfUnsaved path bytes old new (LeftBeside beside) = IsLeftBeside path (string_bytes beside) bytes new
IsToldOfUnsaved path bytes old new (Failed error) = KeepsName path old new ⊎ (new.stands path ≡ Some bytes)

-- no new file can be made at the name: it is the path, or something stands there
abbrev pub IsInUse : List ℕ → FolderState → List ℕ → Type 0
IsInUse path state name = (name ≡ path) ⊎ IsSome (state.stands name)

-- a call that makes or fills the new file has failed, or the flush of the folder
abbrev pub CallFailed : FolderState → FolderState → Type 0
CallFailed old new = FillFailed old new ⊎ HasFailed FlushFolder old new

-- `LeftBeside` is told only if a rename failed, an error of the kind Other only if a call failed, and one of
-- the kind AlreadyExists only if each of the names was taken; no other is told
abbrev pub HasItsCause : List ℕ → List (List ℕ) → FolderState → FolderState → Unsaved → Type 0
HasItsCause path names old new (LeftBeside beside) = HasFailed Rename old new
HasItsCause path names old new (Failed error) =
    ((error_kind error ≡ Other) × CallFailed old new)
    ⊎ ((error_kind error ≡ AlreadyExists) × All (IsInUse path old) names)

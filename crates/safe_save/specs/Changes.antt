-- The images of a folder over memory, by a list of its changes.
use Rattle.std.specs.Prelude.{◌≡◌, ◌⊎◌, ℕ, ◌≤◌, List, length, take, fold, Option, None, option_map, if◌then◌else◌}
use Rattle.std.specs.Str.{bytes_eq}
use Rattle.safe_save.specs.Folder.{Image, FolderState, Same}
use Rattle.safe_save.specs.declared.changes.FolderChange.{FolderChange}
use Rattle.safe_save.specs.declared.folder.FolderCall.{FolderCall}
use Rattle.safe_save.specs.declared.folder.FolderFault.{FolderFault}

-- what stands at a name after a change, if `before` stood there: at the name of the change its content, at
-- its `gone` nothing, and at any other name `before`
abbrev pub changed : List ℕ → Option (List ℕ) → FolderChange → Option (List ℕ)
changed name before change =
    if bytes_eq change.name.bytes.items name
    then option_map (λ bytes. bytes.items) change.content
    else (if bytes_eq change.gone.bytes.items name then None else before)

-- what stands at each name in a folder that was empty before these changes, the first of them first
abbrev pub image_of : List FolderChange → Image
image_of changes name = fold (changed name) None changes

-- what stood in the folder after some of the changes, at least the first t
abbrev pub HasStood : List FolderChange → ℕ → Image → Type 0
HasStood changes t f = (k : ℕ) × (t ≤ k) × (k ≤ length changes) × Same (image_of (take k changes)) f

-- at the name stands this content, at the other name nothing, and at each further name what stood there
abbrev pub IsChanged : List ℕ → Option (List ℕ) → List ℕ → List FolderChange → List FolderChange → Type 0
IsChanged name content gone old new =
    (n : List ℕ)
    → image_of new n ≡ (if bytes_eq name n then content else (if bytes_eq gone n then None else image_of old n))

-- the same stands at each name after the old changes and after the new ones
abbrev pub StandsSame : List FolderChange → List FolderChange → Type 0
StandsSame old new = Same (image_of old) (image_of new)

-- more changes may have come: what has stood since t stood there before, or stands there now
pub record ChangesGoOn (old new : List FolderChange) : Type 0 where
  pub later : length old ≤ length new
  pub nothing_else : (t : ℕ) (f : Image) → t ≤ length old → HasStood new t f → HasStood old t f ⊎ Same (image_of new) f
  pub keeps : (t : ℕ) (f : Image) → t ≤ length old → HasStood old t f → HasStood new t f

-- what a folder tells that was empty before these changes: each is made at once, so a crash leaves what stands there,
-- and nobody else may read it
abbrev pub told : List FolderChange → (FolderCall → FolderFault → ℕ) → FolderState
told changes failed = record {
  stands = image_of changes;
  may_leave = Same (image_of changes);
  moment = length changes;
  left_since = HasStood changes;
  last_failed = failed;
  may_read = λ _ _. ⊥;
}

-- what a folder tells that was empty before these changes, if none of its calls has failed
abbrev pub content_told : List FolderChange → FolderState
content_told changes = told changes (λ _ _. 0)

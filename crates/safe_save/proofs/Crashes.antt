-- Crashes of a folder over memory, where each change is made at once: they leave what stands there.
use Rattle.std.proofs.Common.{inl, inr, ⊎_elim, List, ℕ, ◌≡◌, refl, ◌∙◌}
use Rattle.std.specs.Prelude.{Result, Ok, Err, OnOk, OnErr}
use Rattle.safe_save.specs.Folder.{Image, Same, Touched, TouchedBoth, MayMove, LeavesChanged, Elapses}
use Rattle.safe_save.specs.Changes.{image_of, ChangesGoOn, content_told}
use Rattle.safe_save.specs.declared.changes.FolderChange.{FolderChange}

-- after a call that touched one name, a crash leaves what it could before, changed at that name alone
pub touched : (name : List ℕ) (old new : List FolderChange) → Touched name (image_of old) (image_of new) → LeavesChanged (Touched name) (content_told old) (content_told new)
touched name old new others f same = (image_of old, λ n. refl, λ n apart. same n ∙ others n apart)

-- after a rename that changed nothing, a crash leaves what it could before, with nothing moved
pub not_moved : (from to : List ℕ) (old new : List FolderChange) → Same (image_of old) (image_of new) → LeavesChanged (MayMove from to) (content_told old) (content_told new)
not_moved from to old new kept f same = (
  image_of old,
  λ n. refl,
  record { whole = inl (same from ∙ kept from, same to ∙ kept to); others = λ n apart away. same n ∙ kept n },
)

-- after a rename, made or refused, a crash leaves what it could before, moved if the rename was made
pub moved : {T E : Type 0} (result : Result T E) (from to : List ℕ) (old new : List FolderChange) → OnOk result (image_of new to ≡ image_of old from) → OnErr result (Same (image_of old) (image_of new)) → TouchedBoth from to (image_of old) (image_of new) → LeavesChanged (MayMove from to) (content_told old) (content_told new)
moved (Ok value) from to old new there kept others f same =
    (image_of old, λ n. refl, record { whole = inr (same to ∙ there); others = λ n apart away. same n ∙ others n apart away })
moved (Err fault) from to old new there kept others f same = not_moved from to old new kept f same

-- if a crash after a call leaves only changes of what it could before, so does one during the call
pub goes_on : (change : Image → Image → Type 0) (old new : List FolderChange) → ChangesGoOn old new → LeavesChanged change (content_told old) (content_told new) → Elapses change (content_told old) (content_told new)
goes_on change old new time crash = record {
  later = time.later;
  nothing_else = λ t f le stood. ⊎_elim (λ before. inl before) (λ now. inr (crash f now)) (time.nothing_else t f le stood);
  keeps = time.keeps;
}

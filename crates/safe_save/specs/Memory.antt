-- The state that a folder over memory tells.
use Rattle.std.specs.Prelude.{◌≤◌, ℕ, List, length}
use Rattle.std.proofs.Common.{sym, ◌∙◌, ap, arith}
use Rattle.std.proofs.lemmas.List.{take_all}
use Rattle.safe_save.specs.Folder.{Image, FolderState, Same}
use Rattle.safe_save.specs.Changes.{image_of, HasStood, told}
use Rattle.safe_save.specs.FailedCalls.{last_failed_of, to_come}
use Rattle.safe_save.specs.declared.changes.FolderChange.{FolderChange}
use Rattle.safe_save.specs.declared.failures.Failing.{Failing}
use Rattle.safe_save.specs.declared.memory.MemoryFolder.{MemoryFolder}

-- what stands at each name in a folder over memory
abbrev pub contents : MemoryFolder → Image
contents folder = image_of folder.changes.items

-- which of its calls to come fail, where the machine hasn't stopped
abbrev pub failing_of : MemoryFolder → Failing
failing_of folder = to_come folder.failures

-- what a folder over memory tells
abbrev pub memory_state : MemoryFolder → FolderState
memory_state folder = told folder.changes.items (last_failed_of folder.failures)

-- what stands there now counts as having stood there since t, for each moment t up to now
pub stands_now : (changes : List FolderChange) (t : ℕ) (f : Image) → t ≤ length changes → Same (image_of changes) f
    → HasStood changes t f
stands_now changes t f le same = (
  length changes,
  le,
  omega arith,
  λ name. same name ∙ ap (λ all. image_of all name) (sym (take_all (length changes) changes (omega arith))),
)

-- since the last change nothing has stood there but what stands there now
pub only_last : (changes : List FolderChange) (f : Image) → HasStood changes (length changes) f
    → Same (image_of changes) f
only_last changes f (k, since, within, same) =
    λ name. same name ∙ ap (λ all. image_of all name) (take_all k changes (omega (arith, since)))

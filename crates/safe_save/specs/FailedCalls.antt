-- When the calls of a folder over memory last failed.
use Rattle.std.specs.Prelude.{ℕ, ◌≤◌, slice_index}
use Rattle.safe_save.specs.Places.{place_of}
use Rattle.safe_save.specs.declared.failures.Failing.{Failing}
use Rattle.safe_save.specs.declared.failures.FailedCalls.{FailedCalls}
use Rattle.safe_save.specs.declared.folder.FolderCall.{FolderCall}
use Rattle.safe_save.specs.declared.folder.FolderFault.{FolderFault}

-- the moment, counted from 1, at which a kind of call last failed with a fault
abbrev pub last_failed_of : FailedCalls → FolderCall → FolderFault → ℕ
last_failed_of failures call fault = slice_index failures.last (place_of call fault)

-- no failure is forgotten
abbrev pub KeepsLast : FailedCalls → FailedCalls → Type 0
KeepsLast old new =
    (call : FolderCall) (fault : FolderFault) → last_failed_of old call fault ≤ last_failed_of new call fault

-- which of the calls to come fail, where the machine hasn't stopped
abbrev pub to_come : FailedCalls → Failing
to_come failures = record { at = failures.fails_in; stops = failures.stops; refuses_rename = failures.refuses_rename }

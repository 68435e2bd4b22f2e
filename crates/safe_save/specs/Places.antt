-- Where the last failure of each kind of call with each fault is kept.
use Rattle.std.specs.Prelude.{ℕ, ◌+◌, ◌*◌}
use Rattle.safe_save.specs.declared.folder.FolderCall.{FolderCall}
use Rattle.safe_save.specs.declared.folder.FolderCall.TheVariants.{OpenNew, Write, TakeAfter, Flush, Rename, Overwrite, Remove, FlushFolder}
use Rattle.safe_save.specs.declared.folder.FolderFault.{FolderFault}
use Rattle.safe_save.specs.declared.folder.FolderFault.TheVariants.{Taken, Refused, Failed}

-- the kinds of calls, counted from 0
abbrev pub call_number : FolderCall → ℕ
call_number OpenNew = 0
call_number Write = 1
call_number TakeAfter = 2
call_number Flush = 3
call_number Rename = 4
call_number Overwrite = 5
call_number Remove = 6
call_number FlushFolder = 7

-- the faults, counted from 0
abbrev pub fault_number : FolderFault → ℕ
fault_number Taken = 0
fault_number Refused = 1
fault_number Failed = 2

-- three places for each kind of call, one for each fault
abbrev pub place_of : FolderCall → FolderFault → ℕ
place_of call fault = 3 * call_number call + fault_number fault

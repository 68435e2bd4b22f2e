-- The bytes that a flush passes on, and when a write is a failure of the sink.
use Rattle.std.specs.Prelude.{◌≡◌, ℕ, List, Option, Some, None, Bool, true, not, ◌&&◌, ◌==◌, Result, Ok, Err}
use Rattle.puzzle_io.specs.declared.device.DeviceFault.{DeviceFault}

-- all that a sink took is passed on, where it tells what it passed on
abbrev pub IsPassedOn : Option (List ℕ) → Option (List ℕ) → Type 0
IsPassedOn None taken = Unit {0}
IsPassedOn (Some flushed) taken = taken ≡ Some flushed

-- a write of so many bytes failed: it was refused, or it took none of some bytes
abbrev pub write_failed : Result ℕ DeviceFault → ℕ → Bool
write_failed (Ok taken) offered = (taken == 0) && not (offered == 0)
write_failed (Err fault) offered = true

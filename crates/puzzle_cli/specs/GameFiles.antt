-- The files of a game: what a read and a write may come to, and what is told of them.
use Rattle.std.specs.Prelude.{◌≡◌, ◌≢◌, ◌⊎◌, ℕ, ◌+◌, List, Option, Some, None, Result, Ok, Err, String, string_bytes}
use Rattle.std.specs.Global.{Global}
use Rattle.std.specs.IoError.{error_kind}
use Rattle.std.specs.declared.io.Error.{Error}
use Rattle.std.specs.declared.io.ErrorKind.{ErrorKind}
use Rattle.std.specs.declared.io.ErrorKind.TheVariants.{OutOfMemory as NoMemory}
use Rattle.std.specs.Option.{IsSomeAnd}
use Rattle.play_save.specs.declared.save_format.TheConstants.{MOST_BYTES}
use Rattle.puzzle_cli.specs.declared.fault.Fault.{Fault}
use Rattle.puzzle_cli.specs.declared.fault.Fault.TheVariants.{LoadFile, SaveFile, OutOfMemory}
use Rattle.puzzle_cli.specs.declared.program.game_files.Unwritten.{Unwritten}
use Rattle.puzzle_cli.specs.declared.program.game_files.Unwritten.TheVariants.{Failed, LeftAt}
use Rattle.puzzle_cli.specs.Stages.{Stage}
use Rattle.line_replies.specs.Starts.{Word}

-- the most bytes that are asked for of a file to load: one more than a save may have
abbrev pub most_read : ℕ
most_read = MOST_BYTES + 1

-- what may come of one read of the file at a path, of no more bytes than this: its bytes or an error, and the files
-- after it
abbrev pub Reads : Type 0 → Type 1
Reads F = F → List ℕ → ℕ → Result (List ℕ) Error → F → Type 0

-- what may come of one write of bytes to the file at a path: nothing to tell or why they weren't written, and the files
-- after it
abbrev pub Writes : Type 0 → Type 1
Writes F = F → List ℕ → List ℕ → Option Unwritten → F → Type 0

-- an error is told as a want of memory where its kind is that, and otherwise as this fault
abbrev pub IsToldAs : Fault → Error → Fault → Type 0
IsToldAs other error fault =
    ((error_kind error ≡ NoMemory) × (fault ≡ OutOfMemory)) ⊎ ((error_kind error ≢ NoMemory) × (fault ≡ other))

-- what is told of bytes that weren't written: the path where they stand all the same, if they do, or the error
abbrev pub IsToldOfUnwritten : Unwritten → Fault → Type 0
IsToldOfUnwritten (LeftAt path) fault = fault ≡ SaveFile (Some path)
IsToldOfUnwritten (Failed error) fault = IsToldAs (SaveFile None) error fault

-- the file to load, read once: its bytes, or what is told of the error; none, and nothing is read, where none is named
abbrev pub Loads : {F : Type 0} → Reads F → Option Word → Stage F (Option (List ℕ))
Loads reads (Some path) old (Ok bytes) new =
    IsSomeAnd bytes (λ read. reads old (string_bytes path) most_read (Ok read) new)
Loads reads (Some path) old (Err fault) new =
    (error : Error) × reads old (string_bytes path) most_read (Err error) new × IsToldAs LoadFile error fault
Loads reads None old result new = (result ≡ Ok None) × (new ≡ old)

-- the file to save to, written once, or what is told of the failure; nothing is written where none is named, or no text
abbrev pub Saves : {F : Type 0} → Writes F → Option Word → Option (List ℕ) → Stage F (Unit {0})
Saves writes (Some path) (Some text) old (Ok done) new = writes old (string_bytes path) text None new
Saves writes (Some path) (Some text) old (Err fault) new =
    (why : Unwritten) × writes old (string_bytes path) text (Some why) new × IsToldOfUnwritten why fault
Saves writes (Some path) None old result new = (result ≡ Ok tt) × (new ≡ old)
Saves writes None text old result new = (result ≡ Ok tt) × (new ≡ old)

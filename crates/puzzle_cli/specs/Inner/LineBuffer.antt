-- The lines byte by byte: a part is what has come of a line so far, or None where that is too long.
use Rattle.std.specs.Prelude.{ℕ, ◌==◌, if◌then◌else◌, nat_lt, Some, None, List, [], ◌∷◌, ◌++◌, length}
use Rattle.line_replies.specs.declared.machine.TheConstants.{LINE_BYTES}
use Rattle.line_replies.specs.Lines.{Line, as_line}
use Rattle.byte_text.specs.Bytes.{line_feed}

-- the part with one more byte
abbrev pub pushed : Line → ℕ → Line
pushed None b = None
pushed (Some bytes) b = if nat_lt (length bytes) LINE_BYTES then Some (bytes ++ b ∷ []) else None

-- the lines that LF ends, after the part
abbrev pub ended_from : Line → List ℕ → List Line
ended_from part [] = []
ended_from part (b ∷ bs) =
    if b == line_feed then as_line part ∷ ended_from (Some []) bs else ended_from (pushed part b) bs

-- the part after the last LF
abbrev pub last_from : Line → List ℕ → Line
last_from part [] = part
last_from part (b ∷ bs) = if b == line_feed then last_from (Some []) bs else last_from (pushed part b) bs

-- The lines of an input, and what a rule of replies to them is.
use Rattle.std.specs.Prelude.{ℕ, ◌-◌, ◌==◌, if◌then◌else◌, nat_le, Option, Some, None, List, [], ◌∷◌, length, map, take, slice_index}
use Rattle.std.specs.Option.{option_map}
use Rattle.line_replies.specs.declared.machine.TheConstants.{LINE_BYTES}
use Rattle.byte_text.specs.Bytes.{line_feed, carriage_return}

-- a line, or None for one that is too long
abbrev pub Line : Type 0
Line = Option (List ℕ)

-- what may be said to a line: what answers it, the line, the bytes that are said, what answers the next line
abbrev pub ReplyRule : Type 0 → Type 1
ReplyRule S = S → Line → List ℕ → S → Type 0

-- b put before the first segment
abbrev pub onto : ℕ → List (List ℕ) → List (List ℕ)
onto b [] = (b ∷ []) ∷ []
onto b (segment ∷ rest) = (b ∷ segment) ∷ rest

-- what LF separates: the last segment is what stands after the last LF
abbrev pub segments : List ℕ → List (List ℕ)
segments [] = [] ∷ []
segments (b ∷ bs) = if b == line_feed then [] ∷ segments bs else onto b (segments bs)

-- the bytes, or None where they are more than a line may have
abbrev pub unless_long : List ℕ → Line
unless_long bytes = if nat_le (length bytes) LINE_BYTES then Some bytes else None

-- the bytes without one CR at their end
abbrev pub without_cr : List ℕ → List ℕ
without_cr bytes =
    if slice_index bytes (length bytes - 1) == carriage_return then take (length bytes - 1) bytes else bytes

-- the line that has come, without one CR at its end
abbrev pub as_line : Line → Line
as_line come = option_map without_cr come

-- the lines of an input that is at its end: after the last LF stands the last one
abbrev pub all_lines : List ℕ → List Line
all_lines bytes = map (λ segment. as_line (unless_long segment)) (segments bytes)

-- the lines that LF ended
abbrev pub ended_lines : List ℕ → List Line
ended_lines bytes = take (length (all_lines bytes) - 1) (all_lines bytes)

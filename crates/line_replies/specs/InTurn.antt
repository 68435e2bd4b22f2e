-- The replies to lines in turn, up to the first that ends the run.
use Rattle.std.specs.Prelude.{◌≡◌, ℕ, Bool, true, false, if◌then◌else◌, List, [], ◌∷◌, ◌++◌}
use Rattle.line_replies.specs.Lines.{Line, ReplyRule}

-- the replies to the lines in turn, one after another, and what they leave
abbrev pub RepliesInTurn : {S : Type 0} → ReplyRule S → List Line → S → List ℕ → S → Type 0
RepliesInTurn reply [] old written new = (written ≡ []) × (new ≡ old)
RepliesInTurn {S} reply (line ∷ lines) old written new =
    (bytes : List ℕ) × (mid : S) × (rest : List ℕ) × reply old line bytes mid × (written ≡ bytes ++ rest)
    × RepliesInTurn reply lines mid rest new

-- whether one of the lines ends the run
abbrev pub has_quit : (Line → Bool) → List Line → Bool
has_quit quit [] = false
has_quit quit (line ∷ lines) = if quit line then true else has_quit quit lines

-- the lines before the first that ends the run
abbrev pub before_quit : (Line → Bool) → List Line → List Line
before_quit quit [] = []
before_quit quit (line ∷ lines) = if quit line then [] else line ∷ before_quit quit lines

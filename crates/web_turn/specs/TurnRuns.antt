-- Turns one after another, each with the text that the one before gave back, and the run of the program that they are.
use Rattle.std.specs.Prelude.{◌≡◌, ◌≤◌, ℕ, List, [], ◌∷◌, ◌++◌, false, Option, None, Ok, length}
use Rattle.play_midend.specs.Histories.{History}
use Rattle.play_save.specs.declared.save_format.TheConstants.{MOST_BYTES}
use Rattle.line_replies.specs.Commands.{is_quit}
use Rattle.line_replies.specs.GameFacts.{GameFacts}
use Rattle.line_replies.specs.Lines.{Line}
use Rattle.line_replies.specs.Starts.{GameReply, Begins}
use Rattle.line_replies.specs.InTurn.{RepliesInTurn, has_quit}
use Rattle.web_turn.specs.declared.outcome.Outcome.TheVariants.{Answered}
use Rattle.web_turn.specs.Turns.{IsTurnOutcome, IsUnread, file_of, saved_text}

-- the lines are answered in turn, each to the text that the turn before gave back: what is said to all of them, and the
-- text in the end
abbrev pub AreTurns : {P : Type 0} → GameFacts P → GameReply P → List Line → List ℕ → List ℕ → List ℕ → Type 0
AreTurns f reply [] before said after = (said ≡ []) × (after ≡ before)
AreTurns f reply (line ∷ lines) before said after =
    (one : List ℕ) × (mid : List ℕ) × (rest : List ℕ) × IsTurnOutcome f reply before line one mid Answered
    × (said ≡ one ++ rest) × AreTurns f reply lines mid rest after

-- Turns are a run of the program over the same lines, from the session that it loads of the first text, or from none:
-- what is said to them is what that run writes, and the last text is the one that it saves.
abbrev pub TurnsAreARun : {P : Type 0} → GameFacts P → GameReply P → Type 0
TurnsAreARun {P} f reply =
    (line : Line) (lines : List Line) (before said after : List ℕ) (first : Option (History P))
    → Begins f None (file_of before) (Ok first) → AreTurns f reply (line ∷ lines) before said after
    → (has_quit is_quit (line ∷ lines) ≡ false)
    × ((last : Option (History P)) × RepliesInTurn reply (line ∷ lines) first said last × (after ≡ saved_text f last))

-- a text that a turn gave back is never refused as no save, up to the size that a save may have
abbrev pub TextsAreTaken : {P : Type 0} → GameFacts P → GameReply P → Type 0
TextsAreTaken f reply =
    (before said after refused : List ℕ) (line : Line) → IsTurnOutcome f reply before line said after Answered
    → length after ≤ MOST_BYTES → IsUnread f after refused → ⊥

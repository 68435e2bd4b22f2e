-- A session's answer to a request, and the session that is left.
use Rattle.std.specs.Prelude.{◌≡◌, ℕ, ◌+◌, List, [], ◌∷◌, ◌++◌, length, codes, true, Option, Some, None, Result, Ok, Err}
use Rattle.latin_board.specs.Squares.{GridValue}
use Rattle.latin_board.specs.Boards.{BoardValue}
use Rattle.game_texts.specs.Parameters.{params_text}
use Rattle.trail_solver.specs.Puzzles.{Puzzle, Solves}
use Rattle.trail_solver.specs.Listings.{AreFirst}
use Rattle.play_midend.specs.declared.fault.PlayFault.{PlayFault}
use Rattle.play_midend.specs.declared.moves.Move.{Move}
use Rattle.play_midend.specs.MoveTexts.{IsMoveText, move_fault}
use Rattle.play_midend.specs.Histories.{History, shown}
use Rattle.play_midend.specs.Laws
use Rattle.play_midend.specs.Laws.{Call, FromStart, ToSolution, CallGives, may_take_memory}
use Rattle.line_replies.specs.declared.command.Request.{Request}
use Rattle.line_replies.specs.declared.command.Request.TheVariants.{Act, Tell, Listing}
use Rattle.line_replies.specs.declared.command.Action.{Action}
use Rattle.line_replies.specs.declared.command.Action.TheVariants.{Play, Undo, Redo, Restart, Solve}
use Rattle.line_replies.specs.declared.command.View.{View}
use Rattle.line_replies.specs.declared.command.View.TheVariants.{Show, Marks, Status, Id, Done, Save}
use Rattle.line_replies.specs.declared.reply.refusal.Refusal.{Refusal}
use Rattle.line_replies.specs.Refusals.{play_refusal}
use Rattle.line_replies.specs.BoardTexts.{marks_lines, status_words, done_lines}
use Rattle.line_replies.specs.SolutionTexts.{listed_lines, IsLastMove, solve_sentence}
use Rattle.play_save.specs.Written.{save_of}
use Rattle.line_replies.specs.GameFacts.{GameFacts}
use Rattle.byte_text.specs.Bytes.{line_feed, colon}

-- the line of a call that was made
abbrev pub ok_line : List ℕ
ok_line = codes "ok" ++ line_feed ∷ []

-- the bytes that are said and the session that is left, or a refusal
abbrev pub Outcome : Type 0 → Type 0
Outcome P = Result (List ℕ × Option (History P)) Refusal

-- a text, and the session as it was
abbrev pub text_outcome : {P : Type 0} → History P → List ℕ → Outcome P
text_outcome h text = Ok (text, Some h)

-- the board that a session shows
abbrev pub shown_board : {P : Type 0} → GameFacts P → History P → BoardValue
shown_board f h = shown (f.rules.puzzle h.puzzle) h

-- the ID of the game that is played, in its written form
abbrev pub id_words : {P : Type 0} → GameFacts P → History P → List ℕ
id_words f h = params_text h.params ++ colon ∷ [] ++ f.desc_of h.puzzle

-- ---- calls

-- the call that is asked for, or why a text is no move
abbrev pub IsCallRead : Action (List ℕ) → Result Call PlayFault → Type 0
IsCallRead (Play text) (Ok call) = (m : Move) × IsMoveText m text × (call ≡ Laws.Play m)
IsCallRead (Play text) (Err fault) = ((m : Move) → IsMoveText m text → ⊥) × (fault ≡ move_fault text)
IsCallRead Undo read = read ≡ Ok Laws.Undo
IsCallRead Redo read = read ≡ Ok Laws.Redo
IsCallRead Restart read = read ≡ Ok FromStart
IsCallRead Solve read = read ≡ Ok ToSolution

-- what is said of a call that left this session: `solve` tells the move that it made, the others `ok`
abbrev pub IsSaidOf : {P : Type 0} → Call → History P → List ℕ → Type 0
IsSaidOf ToSolution new text = IsLastMove new text
IsSaidOf call new text = text ≡ ok_line

-- the sentence that stands for a refusal of a call, if any
abbrev pub call_sentence : Call → PlayFault → Option (List ℕ)
call_sentence ToSolution fault = solve_sentence fault
call_sentence call fault = None

-- a sentence, or otherwise the refusal
abbrev pub sentence_outcome : {P : Type 0} → History P → Option (List ℕ) → PlayFault → Outcome P
sentence_outcome h (Some sentence) fault = text_outcome h sentence
sentence_outcome h None fault = Err (play_refusal fault)

-- what is said of a call's answer
abbrev pub CallSays : {P : Type 0} → History P → Call → Result (History P) PlayFault → Outcome P → Type 0
CallSays h call (Ok new) outcome = (text : List ℕ) × IsSaidOf call new text × (outcome ≡ text_outcome new text)
CallSays h call (Err fault) outcome = outcome ≡ sentence_outcome h (call_sentence call fault) fault

-- what is said with ample memory to a call that was read, or to a text that is no move
abbrev pub ReadReplies : {P : Type 0} → Puzzle → History P → Result Call PlayFault → Outcome P → Type 0
ReadReplies {P} p h (Ok call) outcome =
    (exact : Result (History P) PlayFault) × CallGives p h call exact × CallSays h call exact outcome
ReadReplies p h (Err fault) outcome = outcome ≡ Err (play_refusal fault)

-- ---- views

-- what a view tells of a session
abbrev pub view_text : {P : Type 0} → GameFacts P → History P → View → List ℕ
view_text f h Show = f.drawing h.puzzle (shown_board f h)
view_text f h Marks = marks_lines (shown_board f h)
view_text f h Status = status_words (shown_board f h) h.position (length h.moves + 1) ++ line_feed ∷ []
view_text f h Id = id_words f h ++ line_feed ∷ []
view_text f h Done = done_lines (shown_board f h)
view_text f h Save = save_of f.title f.desc_of h

-- the text of the view takes memory
abbrev pub ViewTakesMemory : View → Type 0
ViewTakesMemory Status = ⊥
ViewTakesMemory Done = ⊥
ViewTakesMemory _ = Unit {0}

-- ---- requests

-- what is said to a request with ample memory: to `list` the first solutions of the starting puzzle, so many at most
abbrev pub RequestGives : {P : Type 0} → GameFacts P → History P → Request (List ℕ) → Outcome P → Type 0
RequestGives f h (Act action) outcome =
    (read : Result Call PlayFault) × IsCallRead action read × ReadReplies (f.rules.puzzle h.puzzle) h read outcome
RequestGives f h (Tell view) outcome = outcome ≡ text_outcome h (view_text f h view)
RequestGives f h (Listing n) outcome =
    (listed : List GridValue) × AreFirst (Solves (f.rules.puzzle h.puzzle)) n listed
    × (outcome ≡ text_outcome h (listed_lines listed))

-- The request's answer takes memory, and nothing else refuses it: of a call, that it gives a session.
abbrev pub RequestTakesMemory : {P : Type 0} → GameFacts P → History P → Request (List ℕ) → Type 0
RequestTakesMemory {P} f h (Act action) =
    (call : Call) × IsCallRead action (Ok call) × (may_take_memory call ≡ true)
    × ((new : History P) × CallGives (f.rules.puzzle h.puzzle) h call (Ok new))
RequestTakesMemory f h (Tell view) = ViewTakesMemory view
RequestTakesMemory f h (Listing n) = Unit {0}

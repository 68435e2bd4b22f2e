-- Laws of what lines make of a session, over answers as values; and what the bytes of a reply tell of its answer.
use Rattle.std.specs.Prelude.{◌≡◌, ◌⊎◌, ℕ, ◌<◌, ◌≤◌, ◌^◌, true, IsTrue, codes, List, ◌∷◌, ◌++◌, length, Option, Some, None, Result, Ok, Err}
use Rattle.std.specs.Fmt.{decimal}
use Rattle.std.specs.Option.{IsSomeAnd}
use Rattle.byte_text.specs.Bytes.{colon, exclamation}
use Rattle.latin_board.specs.Squares.{GridValue}
use Rattle.latin_board.specs.Boards.{BoardValue}
use Rattle.trail_solver.specs.Solutions.{HasSeveralSolutions, IsOnlySolution}
use Rattle.game_texts.specs.declared.params.Params.{Params}
use Rattle.game_texts.specs.Parameters.{IsParams, params_text}
use Rattle.puzzle_gen.specs.declared.gen_fault.GenFault.{GenFault}
use Rattle.puzzle_gen.specs.Generating.{Generates}
use Rattle.puzzle_gen.specs.SeededSquares.{square_of}
use Rattle.needed_items.specs.Needed.{all_but}
use Rattle.play_midend.specs.declared.fault.PlayFault.{PlayFault}
use Rattle.play_midend.specs.declared.moves.Move.TheVariants.{Solve as Filling}
use Rattle.play_midend.specs.Histories.{History, IsValid, IsStorable}
use Rattle.play_midend.specs.Laws.{Call, ToSolution, IsSameBack, Answered, may_take_memory}
use Rattle.play_save.specs.declared.fault.LoadFault.TheVariants.{TooLarge}
use Rattle.play_save.specs.declared.save_format.TheConstants.{MOST_BYTES}
use Rattle.line_replies.specs.declared.command.Command.TheVariants.{Ask}
use Rattle.line_replies.specs.declared.command.Request.{Request}
use Rattle.line_replies.specs.declared.command.Request.TheVariants.{Act}
use Rattle.line_replies.specs.declared.reply.refusal.Refusal.TheVariants.{Memory}
use Rattle.line_replies.specs.declared.start.start_fault.StartFault.{StartFault}
use Rattle.line_replies.specs.declared.start.start_fault.StartFault.TheVariants.{Load, OutOfMemory}
use Rattle.line_replies.specs.TowersPicture.{towers_picture}
use Rattle.line_replies.specs.UnequalPicture.{unequal_picture}
use Rattle.line_replies.specs.Lines.{Line}
use Rattle.line_replies.specs.Commands.{Reading, IsRead}
use Rattle.line_replies.specs.GameFacts.{GameFacts}
use Rattle.line_replies.specs.NewSessions.{new_game}
use Rattle.line_replies.specs.Starts.{FileBegins}
use Rattle.line_replies.specs.SolutionTexts.{move_line, grid_line}
use Rattle.line_replies.specs.SessionReplies.{Outcome, text_outcome, sentence_outcome, ok_line, shown_board, IsCallRead, call_sentence}
use Rattle.line_replies.specs.Replies.{LineGives, AmpleGives, AmpleReply, Reply, left, refusal_line}
use Rattle.line_replies.specs.InTurn.{RepliesInTurn}
use Rattle.line_replies.specs.WholeLines.{AreWholeLines}

-- ---- lines

-- each line is read in just one way
abbrev pub LinesAreReadOnce : Type 0
LinesAreReadOnce =
    (line : Line) → (read : Reading (List ℕ)) × IsRead line read
    × ((other : Reading (List ℕ)) → IsRead line other → other ≡ read)

-- the line asks this of a session
abbrev pub Asks : Line → Request (List ℕ) → Type 0
Asks line request = IsRead line (Ok (Some (Ask request)))

-- ---- any line

-- with ample memory there is one output and one session for each list of lines
abbrev pub OutputIsOne : {P : Type 0} → GameFacts P → Type 0
OutputIsOne {P} f =
    (lines : List Line) (old one other : Option (History P)) (written spelled : List ℕ)
    → RepliesInTurn (AmpleReply f) lines old written one → RepliesInTurn (AmpleReply f) lines old spelled other
    → (written ≡ spelled) × (one ≡ other)

-- each seed has a puzzle or a refusal that `generate` may answer
abbrev pub SeedsGenerate : {P : Type 0} → GameFacts P → Type 0
SeedsGenerate {P} f =
    (params : Params) (seed : ℕ) → IsParams f.letters params → seed < 2 ^ 64
    → (made : Result P GenFault) × Generates f.rules params seed made

-- where each seed has a puzzle or a refusal, each list of lines has an output, with ample memory
abbrev pub OutputIsThere : {P : Type 0} → GameFacts P → Type 0
OutputIsThere {P} f =
    SeedsGenerate f → (lines : List Line) (old : Option (History P))
    → (written : List ℕ) × (new : Option (History P)) × RepliesInTurn (AmpleReply f) lines old written new

-- a session that can be stored, or none
abbrev pub IsNoneOrStorable : {P : Type 0} → GameFacts P → Option (History P) → Type 0
IsNoneOrStorable f None = Unit {0}
IsNoneOrStorable f (Some h) = IsStorable f.rules.puzzle f.rules.valid f.letters h

-- each answer leaves a session that can be stored, or none, if it began with such a session or with none
abbrev pub AnswersStayStorable : {P : Type 0} → GameFacts P → Type 0
AnswersStayStorable {P} f =
    (old : Option (History P)) (line : Line) (outcome : Outcome P)
    → IsNoneOrStorable f old → LineGives f old line outcome → IsNoneOrStorable f (left old outcome)

-- ---- what the bytes of a reply tell

-- the bytes name a refusal
abbrev pub IsRefusalLine : List ℕ → Type 0
IsRefusalLine bytes = (name : List ℕ) × (bytes ≡ refusal_line name)

-- a line that is told as refused leaves the session
abbrev pub RefusedLinesLeave : {P : Type 0} → GameFacts P → Type 0
RefusedLinesLeave {P} f =
    (old new : Option (History P)) (line : Line) (bytes : List ℕ) → Reply f old line bytes new → IsRefusalLine bytes
    → new ≡ old

-- any other reply is the answer itself, so what holds of answers holds of bytes
abbrev pub OtherRepliesAnswer : {P : Type 0} → GameFacts P → Type 0
OtherRepliesAnswer {P} f =
    (old new : Option (History P)) (line : Line) (bytes : List ℕ)
    → Reply f old line bytes new → (IsRefusalLine bytes → ⊥) → LineGives f old line (Ok (bytes, new))

-- each picture of a game's boards has no byte, or LF is its last
abbrev pub PicturesAreWholeLines : {P : Type 0} → (P → BoardValue → List ℕ) → Type 0
PicturesAreWholeLines {P} drawing = (p : P) (board : BoardValue) → AreWholeLines (drawing p board)

-- the pictures of both games are whole lines
abbrev pub BothPicturesAreWholeLines : Type 0
BothPicturesAreWholeLines = PicturesAreWholeLines towers_picture × PicturesAreWholeLines unequal_picture

-- where the pictures of a game are whole lines, so is each reply
abbrev pub RepliesAreWholeLines : {P : Type 0} → GameFacts P → Type 0
RepliesAreWholeLines {P} f =
    PicturesAreWholeLines f.drawing
    → (old new : Option (History P)) (line : Line) (bytes : List ℕ) → Reply f old line bytes new → AreWholeLines bytes

-- ---- the session's own calls

-- the call of a session that a request is, if any
abbrev pub IsCallOf : Request (List ℕ) → Call → Type 0
IsCallOf (Act action) call = IsCallRead action (Ok call)
IsCallOf _ call = ⊥

-- what is said of a call that was made: of a solution its move, otherwise `ok`
abbrev pub IsMade : Call → List ℕ → Type 0
IsMade ToSolution text = (g : GridValue) × (text ≡ move_line (Filling g))
IsMade _ text = text ≡ ok_line

-- what comes of a call's answer: the text; the refusal, or why there is no solution to fill in
abbrev pub IsToldOfCall : {P : Type 0} → Call → Result (Unit {0}) PlayFault → History P → Outcome P → Type 0
IsToldOfCall call (Ok u) new outcome = (text : List ℕ) × IsMade call text × (outcome ≡ text_outcome new text)
IsToldOfCall call (Err fault) new outcome = outcome ≡ sentence_outcome new (call_sentence call fault) fault

-- the session answered the call, and the outcome tells the answer and the session that the call left
abbrev pub AnswersCall : {P : Type 0} → GameFacts P → History P → Call → Outcome P → Type 0
AnswersCall {P} f h call outcome =
    (answer : Result (Unit {0}) PlayFault) × (new : History P)
    × Answered (f.rules.puzzle h.puzzle) h call answer new × IsToldOfCall call answer new outcome

-- a line that asks for a call: the session answers the call, and this is what comes of it
abbrev pub LinesAreCalls : {P : Type 0} → GameFacts P → Type 0
LinesAreCalls {P} f =
    (h : History P) (line : Line) (request : Request (List ℕ)) (call : Call) (outcome : Outcome P)
    → Asks line request → IsCallOf request call → LineGives f (Some h) line outcome → AnswersCall f h call outcome

-- a line that asks for no call leaves the session
abbrev pub OtherRequestsLeave : {P : Type 0} → GameFacts P → Type 0
OtherRequestsLeave {P} f =
    (h : History P) (line : Line) (request : Request (List ℕ)) (outcome : Outcome P)
    → Asks line request → ((call : Call) → IsCallOf request call → ⊥) → LineGives f (Some h) line outcome
    → left (Some h) outcome ≡ Some h

-- ---- undo and redo

-- a move, a restart or a solution that was made, and then `undo`: it answers `ok`, and board, past, position, puzzle,
-- parameters and kept bytes are as before
abbrev pub UndoLineTakesBack : {P : Type 0} → GameFacts P → Type 0
UndoLineTakesBack {P} f =
    (h : History P) (line : Line) (request : Request (List ℕ)) (call : Call) (text : List ℕ) (new : Option (History P))
    (outcome : Outcome P)
    → IsValid (f.rules.puzzle h.puzzle) h → Asks line request → IsCallOf request call → may_take_memory call ≡ true
    → IsMade call text
    → LineGives f (Some h) line (Ok (text, new)) → LineGives f new (Some (codes "undo")) outcome
    → (last : History P) × (outcome ≡ text_outcome last ok_line) × IsSameBack (f.rules.puzzle h.puzzle) h last

-- `undo` that wasn't refused, and then `redo`: it answers `ok`, and the whole session is as before, with later moves
abbrev pub RedoLineTakesUndoBack : {P : Type 0} → GameFacts P → Type 0
RedoLineTakesUndoBack {P} f =
    (h : History P) (text : List ℕ) (new : Option (History P)) (outcome : Outcome P)
    → IsValid (f.rules.puzzle h.puzzle) h
    → LineGives f (Some h) (Some (codes "undo")) (Ok (text, new)) → LineGives f new (Some (codes "redo")) outcome
    → outcome ≡ text_outcome h ok_line

-- ---- one answer

-- with ample memory the line is answered by this text and leaves this session; the one other outcome is the refusal
-- Memory
pub record IsTheAnswer {P : Type 0} (f : GameFacts P) (old : Option (History P)) (line : Line) (text : List ℕ)
    (new : Option (History P))
    : Type 0 where
  pub ample : AmpleGives f old line (Ok (text, new))
  pub others : (outcome : Outcome P) → LineGives f old line outcome
      → (outcome ≡ Ok (text, new)) ⊎ (outcome ≡ Err Memory)

-- ---- saving and loading

-- a file's bytes begin this session, or are refused for want of memory, or as longer than a save may be
abbrev pub IsLoadedBack : {P : Type 0} → History P → List ℕ → Result (History P) StartFault → Type 0
IsLoadedBack h bytes (Ok first) = first ≡ h
IsLoadedBack h bytes (Err fault) = (fault ≡ OutOfMemory) ⊎ ((MOST_BYTES < length bytes) × (fault ≡ Load TooLarge))

-- The answer to `save`, as a file, begins the session again, and no other; it does so where it is no longer than a save
-- may be.
abbrev pub SaveLineLoadsBack : {P : Type 0} → GameFacts P → Type 0
SaveLineLoadsBack {P} f =
    (h : History P) → IsNoneOrStorable f (Some h)
    → (bytes : List ℕ) × IsTheAnswer f (Some h) (Some (codes "save")) bytes (Some h)
    × ((first : Result (History P) StartFault) → FileBegins f bytes first → IsLoadedBack h bytes first)
    × (length bytes ≤ MOST_BYTES → FileBegins f bytes (Ok h))

-- ---- described games

-- the line `new` with parameters and the written form of a puzzle's description
abbrev pub described_line : {P : Type 0} → GameFacts P → Params → P → Line
described_line f params puzzle = Some (codes "new " ++ params_text params ++ colon ∷ f.desc_of puzzle)

-- that line begins a new session of the puzzle, whatever session there is
abbrev pub DescribedLinesBegin : {P : Type 0} → GameFacts P → Type 0
DescribedLinesBegin {P} f =
    (old : Option (History P)) (params : Params) (puzzle : P) → IsParams f.letters params → f.rules.valid puzzle
    → params.size ≡ (f.rules.puzzle puzzle).size
    → IsTheAnswer f old (described_line f params puzzle) ok_line (Some (new_game params puzzle))

-- ---- seeded games

-- the line `new` with parameters and a seed
abbrev pub seeded_line : Params → ℕ → Line
seeded_line params seed = Some (codes "new " ++ params_text params ++ exclamation ∷ decimal seed)

-- The puzzle of the session has just this solution, and several without any one of its items. `solve` answers the
-- solution, and the session then shows its numbers; a list of two has it alone.
pub record HasJustOne {P : Type 0} (f : GameFacts P) (g : GridValue) (h : History P) : Type 0 where
  pub only : IsOnlySolution (f.rules.puzzle h.puzzle) g
  pub needed : (i : ℕ) → i < f.rules.items_of (f.rules.puzzle h.puzzle).size → IsTrue (f.rules.has h.puzzle i)
      → HasSeveralSolutions (f.rules.puzzle (f.rules.cut h.puzzle (all_but i)))
  pub solved : History P
  pub solves : IsTheAnswer f (Some h) (Some (codes "solve")) (move_line (Filling g)) (Some solved)
  pub shows : (shown_board f solved).numbers ≡ g.numbers
  pub listed : IsTheAnswer f (Some h) (Some (codes "list 2")) (grid_line g) (Some h)

-- the game of a seed that was begun: its puzzle has just the seed's square as solution
abbrev pub SeededLinesHaveOne : {P : Type 0} → GameFacts P → Type 0
SeededLinesHaveOne {P} f =
    (old new : Option (History P)) (params : Params) (seed : ℕ) (text : List ℕ) → IsParams f.letters params
    → seed < 2 ^ 64
    → LineGives f old (seeded_line params seed) (Ok (text, new))
    → IsSomeAnd new (HasJustOne f (square_of params.size seed))

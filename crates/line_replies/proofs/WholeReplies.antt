-- Each reply is whole lines.
use Rattle.std.proofs.Common.{◌≡◌, ℕ, ◌+◌, ◌*◌, ◌/◌, ◌%◌, ◌==◌, if◌then◌else◌, List, [], ◌∷◌, ◌++◌, length, codes, Option, Some, None, Result, Ok, Err, true, false, refl, sym, subst, inl, inr}
use Rattle.std.specs.Fmt.{decimal}
use Rattle.std.specs.List.{flat_map, range_with_len}
use Rattle.byte_text.specs.Bytes.{line_feed, comma, colon, digit}
use Rattle.latin_board.specs.Boards.{BoardValue, is_done, marks_at}
use Rattle.play_midend.specs.declared.fault.PlayFault.{PlayFault}
use Rattle.play_midend.specs.declared.fault.PlayFault.TheVariants.{NoSolution, SeveralSolutions}
use Rattle.play_midend.specs.declared.moves.Move.TheVariants.{Solve as Filling}
use Rattle.play_midend.specs.MoveTexts.{move_text}
use Rattle.play_midend.specs.Histories.{History}
use Rattle.play_midend.specs.Laws.{Call, ToSolution}
use Rattle.play_save.specs.Keys.{key_name, padded}
use Rattle.play_save.specs.KeyedRecords.{KeyedRecord}
use Rattle.play_save.specs.Written.{record_text, save_of, session_records}
use Rattle.line_replies.specs.declared.command.Command.TheVariants.{New, Quit, Ask}
use Rattle.line_replies.specs.declared.command.Request.{Request}
use Rattle.line_replies.specs.declared.command.Request.TheVariants.{Act, Tell, Listing}
use Rattle.line_replies.specs.declared.command.View.{View}
use Rattle.line_replies.specs.declared.command.View.TheVariants.{Show, Marks, Status, Id, Done, Save}
use Rattle.line_replies.specs.declared.command.line_fault.LineFault.TheVariants.{NoGame}
use Rattle.line_replies.specs.declared.reply.refusal.Refusal.{Refusal}
use Rattle.line_replies.specs.declared.reply.refusal.Refusal.TheVariants.{Line as OfLine}
use Rattle.line_replies.specs.declared.start.start_fault.StartFault.{StartFault}
use Rattle.line_replies.specs.Commands.{Reading}
use Rattle.line_replies.specs.Lines.{Line}
use Rattle.line_replies.specs.BoardTexts.{lines_or, mark_digits, marks_line, place_text, done_line, status_words}
use Rattle.line_replies.specs.SolutionTexts.{grid_digits, grid_line, listed_lines}
use Rattle.line_replies.specs.Refusals.{refusal_name, play_refusal, start_refusal}
use Rattle.line_replies.specs.GameFacts.{GameFacts}
use Rattle.line_replies.specs.SessionReplies.{Outcome, RequestGives, CallSays, IsSaidOf, sentence_outcome, text_outcome, shown_board, id_words, view_text, call_sentence}
use Rattle.line_replies.specs.Replies.{LineGives, ReadGives, begun, plain_text, refusal_line}
use Rattle.line_replies.specs.RunLaws.{PicturesAreWholeLines, RepliesAreWholeLines}
use Rattle.line_replies.specs.WholeLines.{AreWholeLines}
use Rattle.line_replies.proofs.WholePictures.{ends_after, each_whole, line_whole}

-- ---- texts

-- whole lines, or a sentence where there is none, are whole lines
lines_or_whole : (sentence lines : List ℕ) → AreWholeLines lines → AreWholeLines (lines_or sentence lines)
lines_or_whole sentence lines whole =
    elim (length lines == 0) as (λ t. AreWholeLines (if t then sentence ++ 10 ∷ [] else lines)) [
      | true ↦ line_whole sentence
      | false ↦ whole
    ]

marks_line_whole : (b : BoardValue) (cell : ℕ) → AreWholeLines (marks_line b cell)
marks_line_whole b cell =
    let marks = mark_digits (marks_at b cell) in
    let line : List ℕ = digit (cell % b.size) ∷ comma ∷ digit (cell / b.size) ∷ colon ∷ marks in
    elim (length marks == 0) as (λ t. AreWholeLines (if t then [] else line ++ line_feed ∷ [])) [
      | true ↦ inl refl
      | false ↦ line_whole line
    ]

done_line_whole : (b : BoardValue) (place : ℕ) → AreWholeLines (done_line b place)
done_line_whole b place =
    elim (is_done b place) as (λ t. AreWholeLines (if t then place_text b.size place ++ line_feed ∷ [] else [])) [
      | true ↦ line_whole (place_text b.size place)
      | false ↦ inl refl
    ]

record_whole : (r : KeyedRecord) → AreWholeLines (record_text r)
unfolding record_text
record_whole r =
    let value : List ℕ = r.value ++ line_feed ∷ [] in
    let count : List ℕ = decimal (length r.value) ++ colon ∷ value in
    inr (ends_after (padded (key_name r.key)) (colon ∷ count) (ends_after (colon ∷ decimal (length r.value)) (colon ∷ value) (colon ∷ r.value, refl)))

save_whole : {P : Type 0} (title : List ℕ) (desc_of : P → List ℕ) (h : History P) → AreWholeLines (save_of title desc_of h)
unfolding save_of
save_whole title desc_of h = each_whole record_text record_whole (session_records title desc_of h)

refusal_whole : (refusal : Refusal) → AreWholeLines (refusal_line (refusal_name refusal))
refusal_whole refusal = line_whole (codes "refused: " ++ refusal_name refusal)

module _ {P : Type 0} (f : GameFacts P) (drawn : PicturesAreWholeLines f.drawing) where
  -- what is told of a session is whole lines
  view_whole : (h : History P) (view : View) → AreWholeLines (view_text f h view)
  view_whole h Show = drawn h.puzzle (shown_board f h)
  view_whole h Marks =
      let b = shown_board f h in
      let cells = range_with_len 0 (b.size * b.size) in
      lines_or_whole (codes "no marks") (flat_map (marks_line b) cells) (each_whole (marks_line b) (marks_line_whole b) cells)
  view_whole h Status = line_whole (status_words (shown_board f h) h.position (length h.moves + 1))
  view_whole h Id = line_whole (id_words f h)
  view_whole h Done =
      let b = shown_board f h in
      let places = range_with_len 0 (4 * b.size) in
      lines_or_whole (codes "no done clues") (flat_map (done_line b) places) (each_whole (done_line b) (done_line_whole b) places)
  view_whole h Save = save_whole f.title f.desc_of h

  -- what is said of a call that was made is whole lines
  said_whole : (new : History P) (call : Call) (text : List ℕ) → IsSaidOf call new text → AreWholeLines text
  said_whole new ToSolution text (g, last, said) = inr (move_text (Filling g), said)
  said_whole new call text said = inr (codes "ok", said)

  -- the sentence that stands for a refusal, or the line of the refusal, is whole lines
  sentence_whole : (h : History P) (call : Call) (fault : PlayFault) → AreWholeLines (plain_text (sentence_outcome h (call_sentence call fault) fault))
  sentence_whole h ToSolution NoSolution = line_whole (codes "No solution exists for this puzzle")
  sentence_whole h ToSolution SeveralSolutions = line_whole (codes "Multiple solutions exist for this puzzle")
  sentence_whole h ToSolution fault = refusal_whole (play_refusal fault)
  sentence_whole h call fault = refusal_whole (play_refusal fault)

  same_whole : (one other : Outcome P) → one ≡ other → AreWholeLines (plain_text other) → AreWholeLines (plain_text one)
  same_whole one other is whole = subst (λ (o : Outcome P). AreWholeLines (plain_text o)) (sym is) whole

  call_whole : (h : History P) (call : Call) (exact : Result (History P) PlayFault) (outcome : Outcome P) → CallSays h call exact outcome
      → AreWholeLines (plain_text outcome)
  call_whole h call (Ok new) outcome (text, said, is) = same_whole outcome (text_outcome new text) is (said_whole new call text said)
  call_whole h call (Err fault) outcome is =
      same_whole outcome (sentence_outcome h (call_sentence call fault) fault) is (sentence_whole h call fault)

  -- what is said to a request is whole lines
  request_whole : (h : History P) (request : Request (List ℕ)) (outcome : Outcome P) → RequestGives f h request outcome
      → AreWholeLines (plain_text outcome)
  request_whole h (Act action) outcome (Ok call, read, (exact, gives, says)) = call_whole h call exact outcome says
  request_whole h (Act action) outcome (Err fault, read, is) =
      same_whole outcome (Err (play_refusal fault)) is (refusal_whole (play_refusal fault))
  request_whole h (Tell view) outcome is = same_whole outcome (text_outcome h (view_text f h view)) is (view_whole h view)
  request_whole h (Listing n) outcome (listed, first, is) =
      same_whole outcome (text_outcome h (listed_lines listed)) is
      (lines_or_whole (codes "none") (flat_map grid_line listed) (each_whole grid_line (λ g. line_whole (grid_digits g)) listed))

  -- what is said to a line that was read is whole lines
  begun_whole : (begins : Result (History P) StartFault) → AreWholeLines (plain_text (begun begins))
  begun_whole (Ok h) = line_whole (codes "ok")
  begun_whole (Err fault) = refusal_whole (start_refusal fault)

  read_whole : (old : Option (History P)) (read : Reading (List ℕ)) (outcome : Outcome P) → ReadGives f old read outcome
      → AreWholeLines (plain_text outcome)
  read_whole old (Ok None) outcome is = same_whole outcome (Ok ([], old)) is (inl refl)
  read_whole old (Ok (Some (New id))) outcome (exact, begins, is) = same_whole outcome (begun exact) is (begun_whole exact)
  read_whole old (Ok (Some Quit)) outcome is = same_whole outcome (Ok ([], old)) is (inl refl)
  read_whole None (Ok (Some (Ask request))) outcome is = same_whole outcome (Err (OfLine NoGame)) is (refusal_whole (OfLine NoGame))
  read_whole (Some h) (Ok (Some (Ask request))) outcome gives = request_whole h request outcome gives
  read_whole old (Err fault) outcome is = same_whole outcome (Err (OfLine fault)) is (refusal_whole (OfLine fault))

  -- an answer to a line, as a text, is whole lines
  pub answers_are_whole : (old : Option (History P)) (line : Line) (outcome : Outcome P) → LineGives f old line outcome
      → AreWholeLines (plain_text outcome)
  answers_are_whole old line (Ok said) (read, is, gives) = read_whole old read (Ok said) gives
  answers_are_whole old line (Err refusal) given = refusal_whole refusal

-- each reply is whole lines, where the pictures of the game are
pub replies_are_whole : {P : Type 0} (f : GameFacts P) → RepliesAreWholeLines f
replies_are_whole f drawn old new line bytes (outcome, gives, tells, leaves) =
    subst AreWholeLines (sym tells) (answers_are_whole f drawn old line outcome gives)

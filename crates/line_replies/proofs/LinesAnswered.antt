-- With ample memory each line has a reply, and so each list of lines an output.
use Rattle.std.proofs.Common.{◌≡◌, ℕ, List, [], ◌∷◌, ◌++◌, Option, Some, None, Result, Ok, Err, inl, inr, refl, sym, ap}
use Rattle.trail_solver.specs.Puzzles.{Puzzle}
use Rattle.trail_solver.proofs.FirstSolutions.{first_solutions, solutions_counted}
use Rattle.game_texts.specs.declared.id_fault.IdFault.{IdFault}
use Rattle.game_texts.specs.declared.game_id.GameId.{GameId}
use Rattle.game_texts.specs.declared.game_id.GameId.TheVariants.{Described, Seeded}
use Rattle.game_texts.specs.GameIds.{IsIdText, id_at, describes_at}
use Rattle.play_midend.specs.declared.fault.PlayFault.{PlayFault}
use Rattle.play_midend.specs.declared.fault.PlayFault.TheVariants.{NoSolution, SeveralSolutions}
use Rattle.play_midend.specs.declared.moves.Move.TheVariants.{Solve as Filling}
use Rattle.play_midend.specs.MoveTexts.{move_by, move_fault}
use Rattle.play_midend.specs.Histories.{History, with_move, full_refusal, played, restarted, undone, redone}
use Rattle.play_midend.specs.Steps.{unless_refused}
use Rattle.play_midend.specs.Laws.{Call, ToSolution, CallGives}
use Rattle.play_midend.specs.Laws
use Rattle.play_midend.proofs.MoveTextLaws.{move_taken, move_again}
use Rattle.line_replies.specs.declared.start.start_fault.StartFault.{StartFault}
use Rattle.line_replies.specs.declared.command.Command.TheVariants.{New, Quit, Ask}
use Rattle.line_replies.specs.declared.command.Request.{Request}
use Rattle.line_replies.specs.declared.command.Request.TheVariants.{Act, Tell, Listing}
use Rattle.line_replies.specs.declared.command.Action.{Action}
use Rattle.line_replies.specs.declared.command.Action.TheVariants.{Play, Undo, Redo, Restart, Solve}
use Rattle.line_replies.specs.Lines.{Line}
use Rattle.line_replies.specs.Commands.{Reading}
use Rattle.line_replies.specs.Inner.CommandReading.{read_at}
use Rattle.line_replies.specs.GameFacts.{GameFacts}
use Rattle.line_replies.specs.NewSessions.{new_game, generated_game, id_refusal, IsIdRead, IdBegins, TextBegins}
use Rattle.line_replies.specs.SolutionTexts.{move_line, listed_lines}
use Rattle.line_replies.specs.SessionReplies.{Outcome, ok_line, text_outcome, view_text, IsCallRead, IsSaidOf, ReadReplies, RequestGives, call_sentence, sentence_outcome}
use Rattle.line_replies.specs.Replies.{AmpleReply, ReadGives, begun, left, plain_text}
use Rattle.line_replies.specs.InTurn.{RepliesInTurn}
use Rattle.line_replies.specs.RunLaws.{OutputIsThere, SeedsGenerate}
use Rattle.line_replies.proofs.CommandLaws.{line_is_read}
use Rattle.line_replies.proofs.FilledIn.{ends_in}

-- ---- calls

-- each action is read as a call, or has a text that is no move
call_read : (action : Action (List ℕ)) → (read : Result Call PlayFault) × IsCallRead action read
call_read (Play text) =
    elim (move_by text) as (λ o. move_by text ≡ o → (read : Result Call PlayFault) × IsCallRead (Play text) read) [
      | Some m ↦ λ is. (Ok (Laws.Play m), (m, move_taken text m is, refl))
      | None ↦ λ none. (Err (move_fault text), ((λ m spelled. let is = move_again text m spelled in cc), refl))
    ] refl
call_read Undo = (Ok Laws.Undo, refl)
call_read Redo = (Ok Laws.Redo, refl)
call_read Restart = (Ok Laws.FromStart, refl)
call_read Solve = (Ok ToSolution, refl)

module _ {P : Type 0} (p : Puzzle) (h : History P) where
  -- some outcome answers the call
  abbrev HasAnswer : Call → Type 0
  HasAnswer call = (outcome : Outcome P) × ReadReplies p h (Ok call) outcome

  -- a call that gives a refusal has an outcome
  refused_so : (call : Call) (fault : PlayFault) → CallGives p h call (Err fault) → HasAnswer call
  refused_so call fault gives = (sentence_outcome h (call_sentence call fault) fault, (Err fault, gives, refl))

  -- the call that solves has an outcome
  solve_answered : HasAnswer ToSolution
  solve_answered = elim (solutions_counted p) [
    | inl none ↦ refused_so ToSolution NoSolution (inl (none, refl))
    | inr some ↦ elim some [
      | inl several ↦ refused_so ToSolution SeveralSolutions (inr (inl (several, refl)))
      | inr one ↦ elim (full_refusal h.position) as (λ o. full_refusal h.position ≡ o → HasAnswer ToSolution) [
        | Some fault ↦ λ full. refused_so ToSolution fault
            (inr (inr (one.0, one.1, ap (λ (o : Option PlayFault). unless_refused o (with_move h (Filling one.0))) (sym full))))
        | None ↦ λ room.
            let new = with_move h (Filling one.0) in (
              text_outcome new (move_line (Filling one.0)),
              (
                Ok new,
                inr (inr (one.0, one.1, ap (λ (o : Option PlayFault). unless_refused o new) (sym room))),
                (move_line (Filling one.0), (one.0, ends_in h one.0, refl), refl),
              ),
            )
      ] refl
    ]
  ]

  -- a call has an outcome if what it gives is known and `ok` may be said of it
  exact_answered : (call : Call) (exact : Result (History P) PlayFault) → CallGives p h call exact
      → ((new : History P) → IsSaidOf call new ok_line) → HasAnswer call
  exact_answered call (Ok new) gives said = (text_outcome new ok_line, (Ok new, gives, (ok_line, said new, refl)))
  exact_answered call (Err fault) gives said = refused_so call fault gives

  -- each call has an outcome
  call_answered : (call : Call) → HasAnswer call
  call_answered (Laws.Play m) = exact_answered (Laws.Play m) (played p h m) refl (λ new. refl)
  call_answered Laws.FromStart = exact_answered Laws.FromStart (restarted h) refl (λ new. refl)
  call_answered ToSolution = solve_answered
  call_answered Laws.Undo = exact_answered Laws.Undo (undone h) refl (λ new. refl)
  call_answered Laws.Redo = exact_answered Laws.Redo (redone h) refl (λ new. refl)

  -- each call that was read has an outcome, and so does each text that is no move
  read_answered : (read : Result Call PlayFault) → (outcome : Outcome P) × ReadReplies p h read outcome
  read_answered (Ok call) = call_answered call
  read_answered (Err fault) = (_, refl)

-- ---- lines

-- each ID that reading finds in a text is one by the grammar
abbrev pub IdsAreTaken : {P : Type 0} → GameFacts P → Type 0
IdsAreTaken {P} f = (text : List ℕ) (id : GameId P) → id_at f.letters f.has_adjacent f.desc_at text ≡ Ok id
    → IsIdText f.letters (describes_at f.rules.puzzle f.rules.valid f.describes) id text

module _ {P : Type 0} (f : GameFacts P) (taken : IdsAreTaken f) (seeds : SeedsGenerate f) where
  -- each request has an outcome
  request_answered : (h : History P) (request : Request (List ℕ)) → (outcome : Outcome P) × RequestGives f h request outcome
  request_answered h (Act action) =
      let call = call_read action in
      let answer = read_answered (f.rules.puzzle h.puzzle) h call.0 in
      (answer.0, (call.0, call.1, answer.1))
  request_answered h (Tell view) = (text_outcome h (view_text f h view), refl)
  request_answered h (Listing n) =
      let first = first_solutions (f.rules.puzzle h.puzzle) n in
      (text_outcome h (listed_lines first.0), (first.0, first.1, refl))

  -- each ID that was read gives a session or a refusal
  id_begins : (text : List ℕ) (read : Result (GameId P) IdFault) → IsIdRead f text read → (exact : Result (History P) StartFault) × IdBegins f read exact
  id_begins text (Ok (Described params puzzle)) is = (Ok (new_game params puzzle), refl)
  id_begins text (Ok (Seeded params seed)) (letters, within, spelled) =
      let made = seeds params seed letters within in
      (generated_game params made.0, (made.0, made.1, refl))
  id_begins text (Err fault) is = (Err (id_refusal fault), refl)

  -- each text is read as an ID, or has a first fault
  id_read : (text : List ℕ) → (read : Result (GameId P) IdFault) × IsIdRead f text read
  id_read text =
      let at = id_at f.letters f.has_adjacent f.desc_at text in
      elim at as (λ r. at ≡ r → (read : Result (GameId P) IdFault) × IsIdRead f text read)
      [ Ok id ↦ λ is. (Ok id, taken text id is) | Err fault ↦ λ is. (Err fault, is) ] refl

  -- each text of an ID gives a session or a refusal
  text_begins : (text : List ℕ) → (exact : Result (History P) StartFault) × TextBegins f text exact
  text_begins text =
      let read = id_read text in
      let begins = id_begins text read.0 read.1 in
      (begins.0, (read.0, read.1, begins.1))

  -- each line that was read has an outcome
  read_given : (old : Option (History P)) (read : Reading (List ℕ)) → (outcome : Outcome P) × ReadGives f old read outcome
  read_given old (Ok None) = (_, refl)
  read_given old (Ok (Some (New id))) = let begins = text_begins id in (begun begins.0, (begins.0, begins.1, refl))
  read_given old (Ok (Some Quit)) = (_, refl)
  read_given None (Ok (Some (Ask request))) = (_, refl)
  read_given (Some h) (Ok (Some (Ask request))) = request_answered h request
  read_given old (Err fault) = (_, refl)

  -- each line has a reply
  line_answered : (old : Option (History P)) (line : Line) → (bytes : List ℕ) × (new : Option (History P)) × AmpleReply f old line bytes new
  line_answered old line =
      let given = read_given old (read_at line) in
      (plain_text given.0, left old given.0, (given.0, (read_at line, line_is_read line, given.1), refl, refl))

  -- each list of lines has replies in turn
  pub lines_answered : (lines : List Line) (old : Option (History P))
      → (bytes : List ℕ) × (new : Option (History P)) × RepliesInTurn (AmpleReply f) lines old bytes new
  lines_answered [] old = ([], old, (refl, refl))
  lines_answered (line ∷ lines) old =
      let (bytes, mid, says) = line_answered old line in
      let (rest, new, more) = lines_answered lines mid in
      (bytes ++ rest, new, (bytes, mid, rest, says, refl, more))

pub output_is_there : {P : Type 0} (f : GameFacts P) → IdsAreTaken f → OutputIsThere f
output_is_there f taken seeds lines old = lines_answered f taken seeds lines old

-- With ample memory there is one reply to each line.
use Rattle.std.proofs.Common.{◌≡◌, ℕ, ◌++◌, List, [], ◌∷◌, Option, Some, Result, Ok, Err, sym, ap, ◌∙◌, subst, inl, inr}
use Rattle.latin_board.specs.Squares.{GridValue}
use Rattle.trail_solver.specs.Puzzles.{Puzzle, Solves}
use Rattle.game_texts.specs.declared.id_fault.IdFault.{IdFault}
use Rattle.game_texts.specs.declared.game_id.GameId.{GameId}
use Rattle.game_texts.specs.declared.game_id.GameId.TheVariants.{Described, Seeded}
use Rattle.game_texts.specs.GameIds.{IsIdText, id_at, describes_at}
use Rattle.puzzle_gen.specs.declared.gen_fault.GenFault.{GenFault}
use Rattle.needed_items.proofs.ItemLaws.{ItemLaws}
use Rattle.puzzle_gen.proofs.GeneratedOnce.{generates_once}
use Rattle.play_midend.specs.declared.fault.PlayFault.{PlayFault}
use Rattle.play_midend.specs.declared.moves.Move.TheVariants.{Solve as Filling}
use Rattle.play_midend.specs.MoveTexts.{move_by}
use Rattle.play_midend.specs.Histories.{History, with_move, full_refusal, SolveGives}
use Rattle.play_midend.specs.Steps.{unless_refused}
use Rattle.play_midend.specs.Laws.{Call, ToSolution, CallGives}
use Rattle.play_midend.proofs.MoveTextLaws.{move_again}
use Rattle.line_replies.specs.declared.start.start_fault.StartFault.{StartFault}
use Rattle.line_replies.specs.declared.command.Command.TheVariants.{New, Ask}
use Rattle.line_replies.specs.declared.command.Request.{Request}
use Rattle.line_replies.specs.declared.command.Request.TheVariants.{Act, Tell, Listing}
use Rattle.line_replies.specs.declared.command.Action.{Action}
use Rattle.line_replies.specs.declared.command.Action.TheVariants.{Play}
use Rattle.line_replies.specs.Lines.{Line}
use Rattle.line_replies.specs.Commands.{Reading}
use Rattle.line_replies.specs.GameFacts.{GameFacts}
use Rattle.line_replies.specs.NewSessions.{IsIdRead, IdBegins, TextBegins, generated_game}
use Rattle.line_replies.specs.SessionReplies.{Outcome, text_outcome, IsCallRead, IsSaidOf, CallSays, ReadReplies, RequestGives}
use Rattle.line_replies.specs.SolutionTexts.{listed_lines, move_line}
use Rattle.line_replies.specs.Replies.{ReadGives, AmpleGives, AmpleReply, begun, left, plain_text}
use Rattle.line_replies.specs.InTurn.{RepliesInTurn}
use Rattle.line_replies.proofs.CommandLaws.{read_once}
use Rattle.line_replies.proofs.ListedOnce.{first_once}

-- ---- calls

-- an action is read as one call
pub call_read_once : (action : Action (List ℕ)) (one other : Result Call PlayFault) → IsCallRead action one → IsCallRead action other → one ≡ other
call_read_once (Play text) (Ok one) (Ok other) (m, h, is) (k, l, so) =
    let a : move_by text ≡ Some m = move_again text m h in let b : move_by text ≡ Some k = move_again text k l in cc
call_read_once (Play text) (Ok call) (Err e) (m, h, is) l = absurd (l.0 m h)
call_read_once (Play text) (Err e) (Ok call) h (m, l, is) = absurd (h.0 m l)
call_read_once (Play text) (Err e) (Err d) h l = ap Err (h.1 ∙ sym l.1)
call_read_once action one other is so = is ∙ sym so

module _ {P : Type 0} (p : Puzzle) (h : History P) where
  -- the call that solves gives one result
  solves_once : (one other : Result (History P) PlayFault) → SolveGives p h one → SolveGives p h other → one ≡ other
  solves_once one other (inl a) (inl b) = a.1 ∙ sym b.1
  solves_once one other (inl a) (inr (inl b)) = absurd (a.0 b.0.one b.0.one_solves)
  solves_once one other (inl a) (inr (inr b)) = absurd (a.0 b.0 b.1.solves)
  solves_once one other (inr (inl a)) (inl b) = absurd (b.0 a.0.one a.0.one_solves)
  solves_once one other (inr (inl a)) (inr (inl b)) = a.1 ∙ sym b.1
  solves_once one other (inr (inl a)) (inr (inr b)) =
      absurd (a.0.differ (b.1.only a.0.one a.0.one_solves ∙ sym (b.1.only a.0.other a.0.other_solves)))
  solves_once one other (inr (inr a)) (inl b) = absurd (b.0 a.0 a.1.solves)
  solves_once one other (inr (inr a)) (inr (inl b)) =
      absurd (b.0.differ (a.1.only b.0.one b.0.one_solves ∙ sym (a.1.only b.0.other b.0.other_solves)))
  solves_once one other (inr (inr (a, only, is))) (inr (inr (b, sole, so))) =
      is ∙ ap (λ (g : GridValue). unless_refused (full_refusal h.position) (with_move h (Filling g))) (sole.only a only.solves) ∙ sym so

  -- a call gives one result
  call_once : (call : Call) (one other : Result (History P) PlayFault) → CallGives p h call one → CallGives p h call other → one ≡ other
  call_once ToSolution one other is so = solves_once one other is so
  call_once call one other is so = is ∙ sym so

  -- one text is said of a call that was made
  said_once : (call : Call) (new : History P) (a b : List ℕ) → IsSaidOf call new a → IsSaidOf call new b → a ≡ b
  said_once ToSolution new a b (g, last, is) (k, end, so) =
      let same : g ≡ k = cc in is ∙ ap (λ (g : GridValue). move_line (Filling g)) same ∙ sym so
  said_once call new a b is so = is ∙ sym so

  -- one outcome comes of the result of a call
  says_once : (call : Call) (exact : Result (History P) PlayFault) (one other : Outcome P)
      → CallSays h call exact one → CallSays h call exact other → one ≡ other
  says_once call (Ok new) one other (a, said, is) (b, told, so) = is ∙ ap (λ t. text_outcome new t) (said_once call new a b said told) ∙ sym so
  says_once call (Err fault) one other is so = is ∙ sym so

  -- a call that was read has one outcome, and so has a text that is no move
  read_replies_once : (read : Result Call PlayFault) (one other : Outcome P) → ReadReplies p h read one → ReadReplies p h read other → one ≡ other
  read_replies_once (Ok call) one other (exact, gives, says) (e, g, s) =
      says_once call exact one other says (subst (λ (x : Result (History P) PlayFault). CallSays h call x other) (call_once call e exact g gives) s)
  read_replies_once (Err fault) one other is so = is ∙ sym so

-- ---- commands

-- an ID is read in one way
abbrev pub IdsAreReadOnce : {P : Type 0} → GameFacts P → Type 0
IdsAreReadOnce {P} f = (text : List ℕ) (one other : Result (GameId P) IdFault) → IsIdRead f text one → IsIdRead f text other → one ≡ other

-- the grammar of IDs has at most one ID for a text, and reading finds it
pub ids_once : {P : Type 0} (f : GameFacts P)
    → ((text : List ℕ) (id : GameId P) → IsIdText f.letters (describes_at f.rules.puzzle f.rules.valid f.describes) id text
    → id_at f.letters f.has_adjacent f.desc_at text ≡ Ok id) → IdsAreReadOnce f
ids_once f again text (Ok a) (Ok b) h k = sym (again text a h) ∙ again text b k
ids_once f again text (Ok a) (Err b) h k = sym (again text a h) ∙ k
ids_once f again text (Err a) (Ok b) h k = sym h ∙ again text b k
ids_once f again text (Err a) (Err b) h k = sym h ∙ k

-- an ID that was read begins one session, or is refused in one way
id_begins_once : {P : Type 0} (f : GameFacts P) → ItemLaws f.rules
    → (read : Result (GameId P) IdFault) (one other : Result (History P) StartFault)
    → IdBegins f read one → IdBegins f read other → one ≡ other
id_begins_once f laws (Ok (Described params puzzle)) one other is so = sym is ∙ so
id_begins_once {P} f laws (Ok (Seeded params seed)) one other (made, gives, is) (built, tells, so) =
    sym is ∙ ap (λ (r : Result P GenFault). generated_game params r) (generates_once f.rules params seed made built laws gives tells) ∙ so
id_begins_once f laws (Err fault) one other is so = sym is ∙ so

module _ {P : Type 0} (f : GameFacts P) (laws : ItemLaws f.rules) (ids : IdsAreReadOnce f) where
  -- a request has one outcome, with ample memory
  request_once : (h : History P) (request : Request (List ℕ)) (one other : Outcome P) → RequestGives f h request one
      → RequestGives f h request other → one ≡ other
  request_once h (Act action) one other (r, a, is) (s, b, so) =
      read_replies_once (f.rules.puzzle h.puzzle) h r one other is
      (subst (λ (read : Result Call PlayFault). ReadReplies (f.rules.puzzle h.puzzle) h read other) (call_read_once action s r b a) so)
  request_once h (Tell view) one other is so = is ∙ sym so
  request_once h (Listing n) one other (xs, first, is) (ys, least, so) =
      is ∙ ap (λ l. text_outcome h (listed_lines l)) (first_once (Solves (f.rules.puzzle h.puzzle)) n xs ys first least) ∙ sym so

  -- the text of an ID gives one session, or one refusal
  begins_once : (text : List ℕ) (one other : Result (History P) StartFault) → TextBegins f text one → TextBegins f text other → one ≡ other
  begins_once text one other (r, a, is) (s, b, so) =
      id_begins_once f laws r one other is
      (subst (λ (read : Result (GameId P) IdFault). IdBegins f read other) (ids text s r b a) so)

  -- a line that was read has one outcome, with ample memory
  gives_once : (old : Option (History P)) (read : Reading (List ℕ)) (one other : Outcome P)
      → ReadGives f old read one → ReadGives f old read other → one ≡ other
  gives_once old (Ok (Some (New id))) one other (e, begins, is) (d, starts, so) = is ∙ ap begun (begins_once id e d begins starts) ∙ sym so
  gives_once (Some h) (Ok (Some (Ask request))) one other is so = request_once h request one other is so
  gives_once old read one other is so = is ∙ sym so

  -- with ample memory a line has one outcome
  pub outcome_once : (old : Option (History P)) (line : Line) (one other : Outcome P)
      → AmpleGives f old line one → AmpleGives f old line other → one ≡ other
  outcome_once old line one other (r, read, is) (s, scan, so) =
      let same : s ≡ r = read_once line s scan ∙ sym (read_once line r read) in
      gives_once old r one other is (subst (λ (q : Reading (List ℕ)). ReadGives f old q other) same so)

  -- lines that are answered in turn have one output and leave one session, with ample memory
  pub output_once : (lines : List Line) (old m n : Option (History P)) (a b : List ℕ)
      → RepliesInTurn (AmpleReply f) lines old a m → RepliesInTurn (AmpleReply f) lines old b n → (a ≡ b) × (m ≡ n)
  output_once [] old m n a b (none, stays) (nothing, rests) = (none ∙ sym nothing, stays ∙ sym rests)
  output_once (line ∷ lines) old m n a b (x, mid, rest, (one, is, says, leaves), whole, runs) (y, then, more, (other, so, tells, stays), all, goes) =
      let once = outcome_once old line one other is so in
      let same : mid ≡ then = leaves ∙ ap (left old) once ∙ sym stays in
      let goes_on : RepliesInTurn (AmpleReply f) lines mid more n =
      subst (λ (s : Option (History P)). RepliesInTurn (AmpleReply f) lines s more n) (sym same) goes in
      let later = output_once lines mid m n rest more runs goes_on in
      (whole ∙ ap (λ l. l ++ rest) (says ∙ ap plain_text once ∙ sym tells) ∙ ap (λ l. y ++ l) later.0 ∙ sym all, later.1)

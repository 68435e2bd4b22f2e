-- Turns one after another are a run of the program, and go on from each text that a turn gave back.
use Rattle.std.proofs.Common.{◌≡◌, ◌≢◌, ℕ, ◌≤◌, false, List, [], ◌∷◌, ◌++◌, length, Option, Some, None, Ok, Err, cond, refl, sym, ap, ◌∙◌, subst, inl, inr}
use Rattle.play_midend.specs.Histories.{History}
use Rattle.play_save.specs.declared.save_format.TheConstants.{MOST_BYTES}
use Rattle.play_save.specs.SaveTexts.{SaveText}
use Rattle.play_save.specs.Written.{save_of, record_text}
use Rattle.play_save.specs.Laws.{SavesOneSession, FaultsWhereNone, SavesAreStorable, WrittenIsSaved, WrittenSavesNoOther}
use Rattle.line_replies.specs.declared.machine.Response.{Response}
use Rattle.line_replies.specs.declared.machine.Response.TheVariants.{Reply, Silence, Quit}
use Rattle.line_replies.specs.declared.start.start_fault.StartFault.{StartFault}
use Rattle.line_replies.specs.declared.start.start_fault.StartFault.TheVariants.{OutOfMemory}
use Rattle.line_replies.specs.Commands.{is_quit}
use Rattle.line_replies.specs.Formats.{LeavesAsAnswers}
use Rattle.line_replies.specs.GameFacts.{GameFacts}
use Rattle.line_replies.specs.Lines.{Line}
use Rattle.line_replies.specs.Machines.{IsResponse}
use Rattle.line_replies.specs.Starts.{GameReply, Begins}
use Rattle.line_replies.specs.InTurn.{RepliesInTurn, has_quit}
use Rattle.line_replies.specs.RunLaws.{IsNoneOrStorable, AnswersStayStorable}
use Rattle.line_replies.specs.Starts.{saved_facts}
use Rattle.web_turn.specs.Turns.{IsTurn, IsUnread, file_of, said_text, is_end, saved_text}
use Rattle.web_turn.specs.TurnRuns.{AreTurns, TurnsAreARun, TextsAreTaken}

-- a response that doesn't end the session is a reply to a line that isn't `quit`
response_replies : {P : Type 0} (reply : GameReply P) (old new : Option (History P)) (line : Line) (response : Response) (said : List ℕ)
    → IsResponse reply is_quit old line response new → said ≡ said_text response → false ≡ is_end response
    → (is_quit line ≡ false) × reply old line said new
response_replies reply old new line (Reply text) said (other, is) same goes =
    (other, subst (λ (bytes : List ℕ). reply old line bytes new) (sym same) is)
response_replies reply old new line Silence said (other, is) same goes =
    (other, subst (λ (bytes : List ℕ). reply old line bytes new) (sym same) is)
response_replies reply old new line Quit said is same goes = cc

-- the text of a session's save is not empty
written_some : {P : Type 0} (title : List ℕ) (desc_of : P → List ℕ) (h : History P) → save_of title desc_of h ≡ [] → ⊥
unfolding save_of record_text
written_some title desc_of h none = cc

module _ {P : Type 0} (f : GameFacts P) (reply : GameReply P) (leaves : LeavesAsAnswers f reply) (stays : AnswersStayStorable f)
    (once : SavesOneSession (saved_facts f)) (storable : SavesAreStorable (saved_facts f) f.rules.valid)
    (no_other : WrittenSavesNoOther (saved_facts f) f.rules.valid) where
  -- the session that a text begins, or none, can be stored
  begun_storable : (before : List ℕ) (first : Option (History P)) → Begins f None (file_of before) (Ok first) → IsNoneOrStorable f first
  begun_storable [] (Some h) is = cc
  begun_storable [] None is = tt
  begun_storable (byte ∷ bytes) (Some h) is = storable h (byte ∷ bytes) is
  begun_storable (byte ∷ bytes) None is = absurd is

  -- a text begins one session only, or none
  begun_once : (before : List ℕ) (one other : Option (History P)) → Begins f None (file_of before) (Ok one)
      → Begins f None (file_of before) (Ok other) → one ≡ other
  begun_once [] one other first second = cc
  begun_once (byte ∷ bytes) (Some g) (Some h) first second = ap Some (once g h (byte ∷ bytes) first second)
  begun_once (byte ∷ bytes) None other first second = absurd first
  begun_once (byte ∷ bytes) (Some g) None first second = absurd second

  -- the text of a session's save begins no other session
  written_begins : (h : History P) (other : Option (History P)) (text : List ℕ) → IsNoneOrStorable f (Some h) → save_of f.title f.desc_of h ≡ text
      → Begins f None (file_of text) (Ok other) → other ≡ Some h
  written_begins h other [] stored same begins = absurd (written_some f.title f.desc_of h same)
  written_begins h None (byte ∷ bytes) stored same begins = absurd begins
  written_begins h (Some k) (byte ∷ bytes) stored same begins =
      ap Some (no_other h k stored.session stored.puzzle_is
      (subst (λ (text : List ℕ). SaveText (saved_facts f) k text) (sym same) begins)).0

  -- the text of a session, or of none, begins no other session
  saved_begins : (session other : Option (History P)) → IsNoneOrStorable f session
      → Begins f None (file_of (saved_text f session)) (Ok other) → other ≡ session
  saved_begins None other stored begins = cc
  saved_begins (Some h) other stored begins = written_begins h other (save_of f.title f.desc_of h) stored refl begins

  -- what a reply leaves is none, or can be stored, if what was before it is none or can be
  reply_storable : (old new : Option (History P)) (line : Line) (bytes : List ℕ) → IsNoneOrStorable f old → reply old line bytes new
      → IsNoneOrStorable f new
  reply_storable old new line bytes stored said =
      let (asked, answers) = leaves old new line bytes said in
      let (outcome, gives, left) = answers in
      subst (λ (o : Option (History P)). IsNoneOrStorable f o) (sym left) (stays old asked outcome stored gives)

  -- a turn replies to the line at the session, and gives back the text of the session that is left
  record IsOneReply (session : Option (History P)) (line : Line) (one mid : List ℕ) : Type 0 where
    pub new : Option (History P)
    pub other : is_quit line ≡ false
    pub said : reply session line one new
    pub saved : mid ≡ saved_text f new
    pub stored : IsNoneOrStorable f new

  -- a turn with a text that begins just this session is a reply to the line at the session
  turn_replies : (session : Option (History P)) (before one mid : List ℕ) (line : Line) → IsNoneOrStorable f session
      → ((other : Option (History P)) → Begins f None (file_of before) (Ok other) → other ≡ session)
      → IsTurn f reply before line one mid false → IsOneReply session line one mid
  turn_replies session before one mid line stored only t =
      let is = response_replies reply t.old t.new line t.response one t.answered t.is_said t.is_end_of_it in
      let said : reply session line one t.new = subst (λ (o : Option (History P)). reply o line one t.new) (only t.old t.begins) is.1 in
      record { new = t.new; other = is.0; said = said; saved = t.is_saved; stored = reply_storable session t.new line one stored said }

  -- lines without `quit` are answered in turn from the session, and the text is that of the last session
  abbrev Run : List Line → Option (History P) → List ℕ → List ℕ → Type 0
  Run lines session said after =
      (has_quit is_quit lines ≡ false)
      × ((last : Option (History P)) × RepliesInTurn reply lines session said last × (after ≡ saved_text f last))

  -- a turn, and then a run from the session that it leaves, are a run
  begun_run : (line : Line) (lines : List Line) (session : Option (History P)) (one mid rest said after : List ℕ)
      → (r : IsOneReply session line one mid) → said ≡ one ++ rest → Run lines r.new rest after → Run (line ∷ lines) session said after
  begun_run line lines session one mid rest said after r same (none, (last, replies, saved)) =
      (rw r.other none, (last, (one, r.new, rest, r.said, same, replies), saved))

  -- turns that begin with the text of a session are a run from the session
  go_on : (lines : List Line) (session : Option (History P)) (before said after : List ℕ) → IsNoneOrStorable f session
      → before ≡ saved_text f session → AreTurns f reply lines before said after → Run lines session said after
  go_on [] session before said after stored same (none, last) = (refl, (session, (none, refl), last ∙ same))
  go_on (line ∷ lines) session before said after stored same (one, mid, rest, turn, joined, turns) =
      let only : (other : Option (History P)) → Begins f None (file_of before) (Ok other) → other ≡ session =
      λ other begins. saved_begins session other stored
      (subst (λ (text : List ℕ). Begins f None (file_of text) (Ok other)) same begins) in
      let r = turn_replies session before one mid line stored only turn in
      begun_run line lines session one mid rest said after r joined (go_on lines r.new mid rest after r.stored r.saved turns)

  pub turns_are_a_run : TurnsAreARun f reply
  turns_are_a_run line lines before said after first begins (one, mid, rest, turn, joined, turns) =
      let stored = begun_storable before first begins in
      let r = turn_replies first before one mid line stored (λ other is. begun_once before other first is begins) turn in
      begun_run line lines first one mid rest said after r joined (go_on lines r.new mid rest after r.stored r.saved turns)

  -- a text that a turn gave back isn't refused, but for want of memory
  module _ (faults : FaultsWhereNone (saved_facts f)) (written : WrittenIsSaved (saved_facts f) f.rules.valid) where
    never_unread : (new : Option (History P)) (after : List ℕ) (fault : StartFault) → IsNoneOrStorable f new → after ≡ saved_text f new
        → length after ≤ MOST_BYTES → Begins f None (file_of after) (Err fault) → fault ≢ OutOfMemory → ⊥
    never_unread new [] fault stored same small begins other = cc
    never_unread None (byte ∷ bytes) fault stored same small begins other = cc
    never_unread (Some h) (byte ∷ bytes) fault stored same small (inl memory) other = other memory
    never_unread (Some h) (byte ∷ bytes) fault stored same small (inr (inner, none, is)) other =
        (faults (byte ∷ bytes)).0 (inner, none) h
        (subst (λ (text : List ℕ). SaveText (saved_facts f) h text) (sym same)
        (written h stored (subst (λ (text : List ℕ). length text ≤ MOST_BYTES) same small)))

    pub texts_are_taken : TextsAreTaken f reply
    texts_are_taken before said after refused line turn small (fault, begins, other, is) =
        let stored = begun_storable before turn.old turn.begins in
        let r = turn_replies turn.old before said after line stored (λ o begun. begun_once before o turn.old begun turn.begins) turn in
        never_unread r.new after fault r.stored r.saved small begins other

-- A line makes a step of the session's own calls, or leaves the session.
use Rattle.std.proofs.Common.{◌≡◌, ◌≢◌, ◌⊎◌, ℕ, Bool, true, false, List, ◌++◌, codes, Option, Some, Result, Ok, Err, refl, sym, ap, ◌∙◌, subst, inl, inr}
use Rattle.std.specs.Bool.{MatchBool}
use Rattle.play_midend.specs.declared.fault.PlayFault.{PlayFault}
use Rattle.play_midend.specs.declared.fault.PlayFault.TheVariants.{OutOfMemory}
use Rattle.play_midend.specs.Histories.{History, IsRefusal}
use Rattle.play_midend.specs.declared.moves.Move.{Move}
use Rattle.play_midend.specs.MoveTexts.{IsMoveText}
use Rattle.play_midend.specs.Laws.{Call, Play, ToSolution, CallGives, may_take_memory}
use Rattle.play_midend.proofs.NotForMemory.{call_not_for_memory, exact_refusal}
use Rattle.line_replies.specs.declared.command.Command.TheVariants.{Ask}
use Rattle.line_replies.specs.declared.command.Request.{Request}
use Rattle.line_replies.specs.declared.command.Request.TheVariants.{Act, Tell, Listing}
use Rattle.line_replies.specs.declared.command.Action.TheVariants.{Play as PlayText}
use Rattle.line_replies.specs.declared.reply.refusal.Refusal.TheVariants.{Memory}
use Rattle.line_replies.specs.Lines.{Line}
use Rattle.line_replies.specs.Commands.{Reading, IsRead}
use Rattle.line_replies.specs.GameFacts.{GameFacts}
use Rattle.line_replies.specs.SessionReplies.{Outcome, IsSaidOf, CallSays, RequestGives, RequestTakesMemory}
use Rattle.line_replies.specs.Replies.{ReadGives, ReadTakesMemory, ReadMayGive, LineGives, left}
use Rattle.line_replies.specs.RunLaws.{AnswersCall, IsCallOf, IsMade, IsToldOfCall, LinesAreCalls, OtherRequestsLeave}
use Rattle.line_replies.proofs.CommandLaws.{read_once}
use Rattle.line_replies.proofs.RepliesOnce.{call_read_once}

-- what a line makes of a session may come of what the line is read as
pub given_to : {P : Type 0} (f : GameFacts P) (old : Option (History P)) (line : Line) (read : Reading (List ℕ)) (outcome : Outcome P)
    → IsRead line read → LineGives f old line outcome → ReadMayGive f old read outcome
given_to f old line read outcome is (r, scan, gives) =
    subst (λ (x : Reading (List ℕ)). ReadMayGive f old x outcome) (read_once line r scan ∙ sym (read_once line read is)) gives

-- what may come of a line is what comes with ample memory, or the refusal Memory
pub ample_or_none : {P : Type 0} (f : GameFacts P) (old : Option (History P)) (read : Reading (List ℕ)) (outcome : Outcome P)
    → ReadMayGive f old read outcome → ReadGives f old read outcome ⊎ (ReadTakesMemory f old read × (outcome ≡ Err Memory))
ample_or_none f old read (Ok said) gives = inl gives
ample_or_none f old read (Err refusal) (inl gives) = inl gives
ample_or_none f old read (Err refusal) (inr (takes, memory)) = inr (takes, ap Err memory)

module _ {P : Type 0} (f : GameFacts P) (h : History P) where
  -- ---- a call

  -- a refusal for another reason than memory is one, whether the call takes memory or not
  refused_so : (call : Call) (fault : PlayFault) → fault ≢ OutOfMemory
      → (let exact : Result (History P) PlayFault = Err fault in
      MatchBool (may_take_memory call) (IsRefusal exact fault) (exact ≡ Err fault))
  refused_so call fault n =
      let exact : Result (History P) PlayFault = Err fault in
      elim (may_take_memory call) as (λ b. MatchBool b (IsRefusal exact fault) (exact ≡ Err fault)) [
        | true ↦ exact_refusal (History P) fault n
        | false ↦ refl
      ]

  said_made : (call : Call) (k : History P) (text : List ℕ) → IsSaidOf call k text → IsMade call text
  said_made ToSolution k text (g, last, is) = (g, is)
  said_made call k text is = is

  exactly_answered : (call : Call) (exact : Result (History P) PlayFault) (outcome : Outcome P)
      → CallGives (f.rules.puzzle h.puzzle) h call exact → CallSays h call exact outcome → AnswersCall f h call outcome
  exactly_answered call (Ok k) outcome gives (text, said, is) = (Ok tt, k, gives, (text, said_made call k text said, is))
  exactly_answered call (Err fault) outcome gives is =
      let not_for_memory : fault ≢ OutOfMemory = λ e. call_not_for_memory (f.rules.puzzle h.puzzle) h call
      (subst (λ (e : PlayFault). CallGives (f.rules.puzzle h.puzzle) h call (Err e)) e gives) in
      (Err fault, h, (refl, (Err fault, gives, refused_so call fault not_for_memory)), is)

  -- OutOfMemory in answer to a call is told as the refusal Memory
  no_memory_told : (call : Call) → IsToldOfCall call (Err OutOfMemory) h (Err Memory)
  no_memory_told ToSolution = refl
  no_memory_told call = refl

  -- a call that takes memory and would succeed may be answered by OutOfMemory
  no_memory_answered : (call : Call) → may_take_memory call ≡ true → (k : History P) → CallGives (f.rules.puzzle h.puzzle) h call (Ok k)
      → AnswersCall f h call (Err Memory)
  no_memory_answered call takes k gives =
      let exact : Result (History P) PlayFault = Ok k in
      let why : MatchBool (may_take_memory call) (IsRefusal exact OutOfMemory) (exact ≡ Err OutOfMemory) =
      subst (λ (b : Bool). MatchBool b (IsRefusal exact OutOfMemory) (exact ≡ Err OutOfMemory)) (sym takes) refl in
      (Err OutOfMemory, h, (refl, (exact, gives, why)), no_memory_told call)

  -- ---- a request: a call is answered, or the session left

  -- the outcome answers the call that the request is; or the request is no call, and the session is left
  abbrev pub IsTold : Request (List ℕ) → Outcome P → Type 0
  IsTold request outcome =
      ((call : Call) × IsCallOf request call × AnswersCall f h call outcome)
      ⊎ (((call : Call) → IsCallOf request call → ⊥) × (left (Some h) outcome ≡ Some h))

  -- what is given to a request answers its call, or leaves the session
  pub told : (request : Request (List ℕ)) (outcome : Outcome P)
      → RequestGives f h request outcome ⊎ (RequestTakesMemory f h request × (outcome ≡ Err Memory)) → IsTold request outcome
  told (Act action) outcome (inl (Ok call, is, (exact, gives, says))) = inl (call, is, exactly_answered call exact outcome gives says)
  told (Act action) outcome (inl (Err fault, is, out)) =
      inr ((λ call calls. let same : Err fault ≡ Ok call = call_read_once action (Err fault) (Ok call) is calls in cc), ap (left (Some h)) out)
  told (Act action) outcome (inr ((call, is, takes, (k, gives)), memory)) =
      inl (call, is, subst (AnswersCall f h call) (sym memory) (no_memory_answered call takes k gives))
  told (Tell view) outcome (inl out) = inr ((λ call never. never), ap (left (Some h)) out)
  told (Listing n) outcome (inl (listed, first, out)) = inr ((λ call never. never), ap (left (Some h)) out)
  told request outcome (inr (takes, memory)) = inr ((λ call never. never), ap (left (Some h)) memory)

  pub request_told : (request : Request (List ℕ)) (outcome : Outcome P) → ReadMayGive f (Some h) (Ok (Some (Ask request))) outcome
      → IsTold request outcome
  request_told request outcome gives = told request outcome (ample_or_none f (Some h) (Ok (Some (Ask request))) outcome gives)

  -- a request that is a call is answered by the call
  call_answered : (request : Request (List ℕ)) (call : Call) (outcome : Outcome P) → IsCallOf request call
      → IsTold request outcome → AnswersCall f h call outcome
  call_answered (Act action) call outcome is (inl (other, so, answers)) =
      let same : Ok other ≡ Ok call = call_read_once action (Ok other) (Ok call) so is in
      let calls : other ≡ call = cc in subst (λ (c : Call). AnswersCall f h c outcome) calls answers
  call_answered request call outcome is (inr (none, stays)) = absurd (none call is)
  call_answered request call outcome is told = absurd is

  -- a request that is no call leaves the session
  other_leaves : (request : Request (List ℕ)) (outcome : Outcome P)
      → ((call : Call) → IsCallOf request call → ⊥) → IsTold request outcome → left (Some h) outcome ≡ Some h
  other_leaves request outcome none (inl (call, is, answers)) = absurd (none call is)
  other_leaves request outcome none (inr (so, stays)) = stays

-- each line that is a request is a call
pub lines_are_calls : {P : Type 0} (f : GameFacts P) → LinesAreCalls f
lines_are_calls f h line request call outcome asks is gives =
    call_answered f h request call outcome is
    (request_told f h request outcome (given_to f (Some h) line (Ok (Some (Ask request))) outcome asks gives))

-- the line of a move's text is answered by the move
pub move_answered : {P : Type 0} (f : GameFacts P) (h : History P) (m : Move) (text : List ℕ) (outcome : Outcome P) → IsMoveText m text
    → LineGives f (Some h) (Some (codes "move " ++ text)) outcome → AnswersCall f h (Play m) outcome
move_answered f h m text outcome is gives =
    lines_are_calls f h (Some (codes "move " ++ text)) (Act (PlayText text)) (Play m) outcome (codes "move " ++ text, refl, inr refl)
    (m, is, refl) gives

pub other_requests_leave : {P : Type 0} (f : GameFacts P) → OtherRequestsLeave f
other_requests_leave f h line request outcome asks none gives =
    other_leaves f h request outcome none
    (request_told f h request outcome (given_to f (Some h) line (Ok (Some (Ask request))) outcome asks gives))

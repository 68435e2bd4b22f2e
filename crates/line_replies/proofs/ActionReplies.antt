-- The reply to a call that is asked for, out of what the call answered.
use Rattle.std.proofs.Common.{◌≡◌, ◌≢◌, ◌⊎◌, ℕ, Bool, true, false, List, Option, None, Result, Ok, Err, IfErr, OnOk, OnErr, refl, sym, ap, subst, inl, inr}
use denote.Ref.{Bor}
use Rattle.std.specs.Bool.{MatchBool}
use Rattle.trail_solver.specs.Puzzles.{Puzzle}
use Rattle.play_midend.specs.declared.fault.PlayFault.{PlayFault}
use Rattle.play_midend.specs.declared.fault.PlayFault.TheVariants.{OutOfMemory}
use Rattle.play_midend.specs.declared.moves.Move.{Move}
use Rattle.play_midend.specs.MoveTexts.{IsMoveText, move_fault}
use Rattle.play_midend.specs.Histories.{History, IsRefusal, IsSolveRefusal, SolveGives}
use Rattle.play_midend.specs.Laws.{Call, ToSolution, CallGives, Answered, may_take_memory}
use Rattle.line_replies.specs.declared.command.Request.TheVariants.{Act}
use Rattle.line_replies.specs.declared.command.Action.{Action}
use Rattle.line_replies.specs.declared.command.Action.TheVariants.{Play, Solve}
use Rattle.line_replies.specs.declared.reply.refusal.Refusal.{Refusal}
use Rattle.line_replies.specs.Commands.{action_copied}
use Rattle.line_replies.specs.GameFacts.{GameFacts}
use Rattle.line_replies.specs.Refusals.{play_refusal}
use Rattle.line_replies.specs.Replies.{Explains}
use Rattle.line_replies.specs.SolutionTexts.{solve_sentence}
use Rattle.line_replies.specs.SessionReplies.{IsCallRead, call_sentence, sentence_outcome, RequestGives, RequestTakesMemory}
use Rattle.line_replies.specs.Inner.Answers.{ReadAnswered, ActionAnswered}

module _ {P : Type 0} (p : Puzzle) (h new : History P) where
  -- what a call promises is what an action that asks for the call is to answer
  pub answered : (action : Action (List ℕ)) (call : Call) (exact : Result (History P) PlayFault) (result : Result (Unit {0}) PlayFault)
      → IsCallRead action (Ok call) → CallGives p h call exact → OnOk result (exact ≡ Ok new) → OnErr result (new ≡ h)
      → IfErr result (λ fault. MatchBool (may_take_memory call) (IsRefusal exact fault) (exact ≡ Err fault))
      → ActionAnswered p h action result new
  answered action call exact (Ok u) read gives ok err why = (Ok call, read, subst (λ (x : Result (History P) PlayFault). CallGives p h call x) ok gives)
  answered action call exact (Err fault) read gives ok err why = (Ok call, read, (err, (exact, gives, why)))

  pub solve_answered : (result : Result (Unit {0}) PlayFault) → OnOk result (SolveGives p h (Ok new)) → OnErr result (new ≡ h)
      → IfErr result (IsSolveRefusal p h) → ActionAnswered p h Solve result new
  solve_answered (Ok u) ok err why = (Ok ToSolution, refl, ok)
  solve_answered (Err fault) ok err why = (Ok ToSolution, refl, (err, why))

  -- a text that is no move is refused by the name of its fault
  pub unread_answered : (text : List ℕ) (result : Result (Unit {0}) PlayFault) (fault : PlayFault) → result ≡ Err fault
      → ((m : Move) → IsMoveText m text → ⊥) → fault ≡ move_fault text → new ≡ h → ActionAnswered p h (Play text) result new
  unread_answered text result fault is none named stays = (Err fault, (none, named), (stays, is))

-- no action but `solve` asks for the call that solves
no_solution : (action : Action (List ℕ)) (read : Result Call PlayFault) → action ≢ Solve → IsCallRead action read → read ≢ Ok ToSolution
no_solution Solve read n is = absurd (n refl)
no_solution (Play text) (Ok call) n (m, spelled, is) = λ e. cc
no_solution (Play text) (Err fault) n is = λ e. cc
no_solution action read n is = λ e. cc

pub still_other : {X : Type 0} (action : Action (Bor X)) → action ≢ Solve → action_copied action ≢ Solve
still_other Solve n = absurd (n refl)
still_other action n = λ e. cc

-- a call that was refused is refused so with ample memory, too, or lacked memory
refused_or_no_memory : {P : Type 0} (exact : Result (History P) PlayFault) (fault : PlayFault) (takes : Bool)
    → MatchBool takes (IsRefusal exact fault) (exact ≡ Err fault)
    → (exact ≡ Err fault) ⊎ ((takes ≡ true) × (fault ≡ OutOfMemory) × ((k : History P) × (exact ≡ Ok k)))
refused_or_no_memory exact fault false why = inl why
refused_or_no_memory (Ok k) OutOfMemory true why = inr (refl, refl, (k, refl))
refused_or_no_memory (Err other) OutOfMemory true why = cc
refused_or_no_memory exact fault true why = inl why

module _ {P : Type 0} (f : GameFacts P) (h new : History P) where
  -- the refusal of an action is explained
  abbrev IsExplained : Action (List ℕ) → Refusal → Type 0
  IsExplained action refusal = Explains (RequestGives f h (Act action)) (RequestTakesMemory f h (Act action)) refusal

  -- a call that was refused is explained, where no sentence stands for the refusal
  call_explained : (action : Action (List ℕ)) (call : Call) (fault : PlayFault) → IsCallRead action (Ok call)
      → call_sentence call fault ≡ None → Answered (f.rules.puzzle h.puzzle) h call (Err fault) new
      → IsExplained action (play_refusal fault)
  call_explained action call fault read none (stays, (exact, gives, why)) =
      elim (refused_or_no_memory exact fault (may_take_memory call) why) [
        | inl is ↦ inl (
          Ok call,
          read,
          (
            Err fault,
            subst (λ (x : Result (History P) PlayFault). CallGives (f.rules.puzzle h.puzzle) h call x) is gives,
            ap (λ (s : Option (List ℕ)). sentence_outcome h s fault) (sym none),
          ),
        )
        | inr refused ↦ let (takes, memory, (k, gave)) = refused in inr (
          (call, read, takes, (k, subst (λ (x : Result (History P) PlayFault). CallGives (f.rules.puzzle h.puzzle) h call x) gave gives)),
          ap play_refusal memory,
        )
      ]

  -- no sentence stands for a refusal of a call that doesn't solve
  no_sentence : (call : Call) (fault : PlayFault) → call ≢ ToSolution → call_sentence call fault ≡ None
  no_sentence ToSolution fault n = absurd (n refl)
  no_sentence call fault n = refl

  explained : (action : Action (List ℕ)) (read : Result Call PlayFault) (fault : PlayFault) → IsCallRead action read
      → (read ≢ Ok ToSolution) ⊎ (solve_sentence fault ≡ None) → ReadAnswered (f.rules.puzzle h.puzzle) h read (Err fault) new
      → IsExplained action (play_refusal fault)
  explained action (Ok call) fault is (inl n) answer =
      call_explained action call fault is (no_sentence call fault (λ e. n (ap Ok e))) answer
  explained action (Ok ToSolution) fault is (inr none) answer = call_explained action ToSolution fault is none answer
  explained action (Ok call) fault is (inr none) answer = call_explained action call fault is refl answer
  explained action (Err other) fault is none (stays, e) = inl (Err other, is, cc)

  -- the refusal by which a refused action is told is explained
  pub refused_said : (action : Action (List ℕ)) (fault : PlayFault) (refusal : Refusal) → refusal ≡ play_refusal fault
      → (action ≢ Solve) ⊎ (solve_sentence fault ≡ None)
      → ActionAnswered (f.rules.puzzle h.puzzle) h action (Err fault) new → IsExplained action refusal
  refused_said action fault refusal same (inl n) (read, is, answer) =
      subst (IsExplained action) (sym same) (explained action read fault is (inl (no_solution action read n is)) answer)
  refused_said action fault refusal same (inr none) (read, is, answer) =
      subst (IsExplained action) (sym same) (explained action read fault is (inr none) answer)

  pub solve_refused : {T : Type 0} (action : Action (List ℕ)) (answer : Result (Unit {0}) PlayFault) (result : Result T Refusal)
      → ActionAnswered (f.rules.puzzle h.puzzle) h action answer new
      → IfErr result (λ refusal. (fault : PlayFault) × (answer ≡ Err fault) × (solve_sentence fault ≡ None)
      × (refusal ≡ play_refusal fault)) → IfErr result (IsExplained action)
  solve_refused action answer (Ok text) answered why = tt
  solve_refused action answer (Err refusal) answered (fault, is, none, same) =
      refused_said action fault refusal same (inr none)
      (subst (λ (a : Result (Unit {0}) PlayFault). ActionAnswered (f.rules.puzzle h.puzzle) h action a new) is answered)

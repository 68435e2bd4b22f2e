-- The lines `undo` and `redo` take back what was made, and what was undone.
use Rattle.std.proofs.Common.{◌≡◌, ℕ, true, List, codes, get_or, Option, Some, Result, Ok, Err, refl, sym, ap, ◌∙◌, subst, arith}
use Rattle.std.specs.Result.{IsOkAnd}
use Rattle.trail_solver.specs.Puzzles.{Puzzle}
use Rattle.play_midend.specs.declared.fault.PlayFault.{PlayFault}
use Rattle.play_midend.specs.declared.fault.PlayFault.TheVariants.{NoSolution, SeveralSolutions}
use Rattle.play_midend.specs.Histories.{History, IsValid, undone, redone}
use Rattle.play_midend.specs.Laws.{Call, ToSolution, IsSameBack, may_take_memory}
use Rattle.play_midend.specs.Laws
use Rattle.play_midend.proofs.SessionLaws.{call_taken_back, redo_takes_undo_back}
use Rattle.line_replies.specs.declared.command.Command.TheVariants.{Ask}
use Rattle.line_replies.specs.declared.command.Request.TheVariants.{Act}
use Rattle.line_replies.specs.declared.command.Action.TheVariants.{Undo, Redo}
use Rattle.line_replies.specs.GameFacts.{GameFacts}
use Rattle.line_replies.specs.SessionReplies.{Outcome, text_outcome, ok_line}
use Rattle.line_replies.specs.Replies.{LineGives, left, plain_text}
use Rattle.line_replies.specs.RunLaws.{AnswersCall, Asks, IsMade, IsToldOfCall, UndoLineTakesBack, RedoLineTakesUndoBack}
use Rattle.line_replies.proofs.CommandLaws.{word_read}
use Rattle.line_replies.proofs.CallReplies.{lines_are_calls}

-- ---- undo and redo

undo_asks : Asks (Some (codes "undo")) (Act Undo)
undo_asks = (codes "undo", refl, word_read (codes "undo") (Ask (Act Undo)) refl)

redo_asks : Asks (Some (codes "redo")) (Act Redo)
redo_asks = (codes "redo", refl, word_read (codes "redo") (Ask (Act Redo)) refl)

-- an undo that goes back to a session is told by `ok`, and leaves that session, later moves apart
undo_said : {P : Type 0} (f : GameFacts P) (p : Puzzle) (h k : History P) (outcome : Outcome P)
    → IsOkAnd (undone k) (IsSameBack p h) → AnswersCall f k Laws.Undo outcome
    → (last : History P) × (outcome ≡ text_outcome last ok_line) × IsSameBack p h last
undo_said {P} f p h k outcome back (Ok u, last, gives, (text, made, is)) =
    (last, is ∙ ap (text_outcome last) made, subst (λ (r : Result (History P) PlayFault). IsOkAnd r (IsSameBack p h)) (sym gives) back)
undo_said {P} f p h k outcome back (Err fault, last, (stays, (exact, gives, is)), told) =
    absurd (subst (λ (r : Result (History P) PlayFault). IsOkAnd r (IsSameBack p h)) (sym gives ∙ is) back)

-- what was made was not refused: a solution's move is no sentence
not_refused : {P : Type 0} (call : Call) (fault : PlayFault) (text : List ℕ) (k : History P) (new : Option (History P)) → IsMade call text
    → IsToldOfCall call (Err fault) k (Ok (text, new)) → ⊥
not_refused ToSolution NoSolution text k new (g, made) told =
    let e : 83 ≡ 78 = ap (λ l. get_or l 0 0) (sym made ∙ ap plain_text told) in omega (arith, e)
not_refused ToSolution SeveralSolutions text k new (g, made) told =
    let e : 83 ≡ 77 = ap (λ l. get_or l 0 0) (sym made ∙ ap plain_text told) in omega (arith, e)
not_refused call fault text k new made told = cc

-- `undo` after a call that was made goes back to the session before the call, later moves apart
after_made : {P : Type 0} (f : GameFacts P) (h : History P) (call : Call) (text : List ℕ) (new : Option (History P)) (outcome : Outcome P)
    → IsValid (f.rules.puzzle h.puzzle) h → may_take_memory call ≡ true → IsMade call text → AnswersCall f h call (Ok (text, new))
    → LineGives f new (Some (codes "undo")) outcome → (last : History P) × (outcome ≡ text_outcome last ok_line) × IsSameBack (f.rules.puzzle h.puzzle) h last
after_made {P} f h call text new outcome valid takes made (Ok u, k, gives, (said, tells, is)) then =
    let stays : new ≡ Some k = ap (left (Some h)) is in
    undo_said f (f.rules.puzzle h.puzzle) h k outcome (call_taken_back f.rules.puzzle h k call valid takes gives)
    (lines_are_calls f k (Some (codes "undo")) (Act Undo) Laws.Undo outcome undo_asks refl
    (subst (λ (o : Option (History P)). LineGives f o (Some (codes "undo")) outcome) stays then))
after_made f h call text new outcome valid takes made (Err fault, k, gives, told) then = absurd (not_refused call fault text k new made told)

pub undo_line_takes_back : {P : Type 0} (f : GameFacts P) → UndoLineTakesBack f
undo_line_takes_back f h line request call text new outcome valid asks is takes made first then =
    after_made f h call text new outcome valid takes made (lines_are_calls f h line request call (Ok (text, new)) asks is first) then

-- a redo that gives a session is told by `ok`, and leaves that session
redo_said : {P : Type 0} (f : GameFacts P) (h k : History P) (outcome : Outcome P) → redone k ≡ Ok h
    → AnswersCall f k Laws.Redo outcome → outcome ≡ text_outcome h ok_line
redo_said f h k outcome back (Ok u, last, gives, (text, made, is)) =
    let same : last ≡ h = cc in is ∙ ap (text_outcome last) made ∙ ap (λ s. text_outcome s ok_line) same
redo_said f h k outcome back (Err fault, last, (stays, (exact, gives, is)), told) = cc

-- `redo` after an `undo` that was made goes back to the session before the `undo`
after_undo : {P : Type 0} (f : GameFacts P) (h : History P) (text : List ℕ) (new : Option (History P)) (outcome : Outcome P)
    → IsValid (f.rules.puzzle h.puzzle) h → AnswersCall f h Laws.Undo (Ok (text, new)) → LineGives f new (Some (codes "redo")) outcome
    → outcome ≡ text_outcome h ok_line
after_undo {P} f h text new outcome valid (Ok u, k, gives, (said, made, is)) then =
    let stays : new ≡ Some k = ap (left (Some h)) is in
    redo_said f h k outcome (redo_takes_undo_back f.rules.puzzle h k valid (sym gives))
    (lines_are_calls f k (Some (codes "redo")) (Act Redo) Laws.Redo outcome redo_asks refl
    (subst (λ (o : Option (History P)). LineGives f o (Some (codes "redo")) outcome) stays then))
after_undo f h text new outcome valid (Err fault, k, gives, told) then = cc

pub redo_line_takes_undo_back : {P : Type 0} (f : GameFacts P) → RedoLineTakesUndoBack f
redo_line_takes_undo_back f h text new outcome valid first then =
    after_undo f h text new outcome valid (lines_are_calls f h (Some (codes "undo")) (Act Undo) Laws.Undo (Ok (text, new)) undo_asks refl first) then

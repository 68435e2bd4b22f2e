-- A reply's bytes tell its answer: a refusal's line is no line of what was done, and any other is the answer.
use Rattle.std.proofs.Common.{◌≡◌, ℕ, List, get_or, Option, Some, Ok, Err, refl, sym, ap, ◌∙◌, subst, arith, inl, inr}
use Rattle.play_midend.specs.Histories.{History}
use Rattle.play_midend.specs.Laws.{Call, ToSolution}
use Rattle.play_midend.specs.Laws
use Rattle.line_replies.specs.GameFacts.{GameFacts}
use Rattle.line_replies.specs.SessionReplies.{Outcome, ok_line, call_sentence}
use Rattle.line_replies.specs.Refusals.{refusal_name}
use Rattle.line_replies.specs.Replies.{LineGives, left, plain_text, refusal_line}
use Rattle.line_replies.specs.RunLaws.{AnswersCall, IsMade, RefusedLinesLeave, OtherRepliesAnswer}
use Rattle.line_replies.proofs.ReplySteps.{Step, reply_step, sentence_left}

-- what is said of a call that was made is no refusal's line: they differ in their first byte
made_or_refused : (call : Call) (text name : List ℕ) → IsMade call text → text ≡ refusal_line name → ⊥
made_or_refused ToSolution text name (g, made) named =
    let e : 83 ≡ 114 = ap (λ l. get_or l 0 0) (sym made ∙ named) in omega (arith, e)
made_or_refused call text name made named =
    let e : 111 ≡ 114 = ap (λ l. get_or l 0 0) (sym made ∙ named) in omega (arith, e)

module _ {P : Type 0} (f : GameFacts P) (name : List ℕ) (outcome : Outcome P) (told : plain_text outcome ≡ refusal_line name) where
  -- a call that is told as refused left the session
  call_refused : (h : History P) (call : Call) → AnswersCall f h call outcome → left (Some h) outcome ≡ Some h
  call_refused h call (Ok u, new, gives, (text, made, is)) =
      absurd (made_or_refused call text name made (sym (ap plain_text is) ∙ told))
  call_refused h call (Err fault, new, (stays, why), is) =
      ap (left (Some h)) is ∙ sentence_left h new (call_sentence call fault) fault stays ∙ ap Some stays

  -- a line that is told as refused left the session
  step_refused : (old : Option (History P)) → Step f old outcome → left old outcome ≡ old
  step_refused old (inl (id, k, begins, is)) = absurd (made_or_refused Laws.Undo ok_line name refl (sym (ap plain_text is) ∙ told))
  step_refused old (inr (inl (h, call, there, answers))) =
      ap (λ (o : Option (History P)). left o outcome) there ∙ call_refused h call answers ∙ sym there
  step_refused old (inr (inr stays)) = stays

pub refused_lines_leave : {P : Type 0} (f : GameFacts P) → RefusedLinesLeave f
refused_lines_leave f old new line bytes (outcome, (read, is, gives), tells, leaves) (name, named) =
    leaves ∙ step_refused f name outcome (sym tells ∙ named) old (reply_step f old outcome read gives)

pub other_replies_answer : {P : Type 0} (f : GameFacts P) → OtherRepliesAnswer f
other_replies_answer {P} f old new line bytes (Ok (text, k), gives, tells, leaves) none =
    let one : Outcome P = Ok (text, k) in
    let other : Outcome P = Ok (bytes, new) in
    let same : one ≡ other = cc in
    subst (λ (o : Outcome P). LineGives f old line o) same gives
other_replies_answer f old new line bytes (Err refusal, gives, tells, leaves) none = absurd (none (refusal_name refusal, tells))

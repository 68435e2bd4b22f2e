-- A line begins a session, is a call of the one that there is, or leaves what there is.
use Rattle.std.proofs.Common.{◌≡◌, ◌⊎◌, ℕ, List, Option, Some, None, Ok, Err, refl, sym, ap, inl, inr}
use Rattle.play_midend.specs.declared.fault.PlayFault.{PlayFault}
use Rattle.play_midend.specs.Histories.{History}
use Rattle.play_midend.specs.Laws.{Call}
use Rattle.line_replies.specs.Commands.{Reading}
use Rattle.line_replies.specs.declared.command.Command.TheVariants.{New, Ask}
use Rattle.line_replies.specs.declared.reply.refusal.Refusal.TheVariants.{Memory}
use Rattle.line_replies.specs.GameFacts.{GameFacts}
use Rattle.line_replies.specs.NewSessions.{TextBegins}
use Rattle.line_replies.specs.SessionReplies.{Outcome, ok_line, sentence_outcome}
use Rattle.line_replies.specs.Replies.{ReadGives, ReadTakesMemory, ReadMayGive, left}
use Rattle.line_replies.specs.RunLaws.{AnswersCall}
use Rattle.line_replies.proofs.CallReplies.{ample_or_none, told}

module _ {P : Type 0} (f : GameFacts P) (old : Option (History P)) (outcome : Outcome P) where
  -- one step: an ID begins a session, a call of the session is answered, or what there is is left
  abbrev pub Step : Type 0
  Step =
      ((id : List ℕ) × (k : History P) × TextBegins f id (Ok k) × (outcome ≡ Ok (ok_line, Some k)))
      ⊎ ((h : History P) × (call : Call) × (old ≡ Some h) × AnswersCall f h call outcome) ⊎ (left old outcome ≡ old)

-- what a line that was read gives is one step
step : {P : Type 0} (f : GameFacts P) (old : Option (History P)) (outcome : Outcome P) (read : Reading (List ℕ))
    → ReadGives f old read outcome ⊎ (ReadTakesMemory f old read × (outcome ≡ Err Memory)) → Step f old outcome
step f old outcome (Ok (Some (New id))) (inl (Ok k, begins, is)) = inl (id, k, begins, is)
step f old outcome (Ok (Some (New id))) (inl (Err fault, begins, is)) = inr (inr (ap (left old) is))
step f (Some h) outcome (Ok (Some (Ask request))) given =
    elim (told f h request outcome given) [
      | inl calls ↦ let (call, is, answers) = calls in inr (inl (h, call, refl, answers))
      | inr stays ↦ inr (inr stays.1)
    ]
step f old outcome read (inl is) = inr (inr (ap (left old) is))
step f old outcome read (inr (takes, memory)) = inr (inr (ap (left old) memory))

-- what may come of a line that was read is one step
pub reply_step : {P : Type 0} (f : GameFacts P) (old : Option (History P)) (outcome : Outcome P) (read : Reading (List ℕ))
    → ReadMayGive f old read outcome → Step f old outcome
reply_step f old outcome read gives = step f old outcome read (ample_or_none f old read outcome gives)

-- what tells a refused call leaves the session that the call left
pub sentence_left : {P : Type 0} (h new : History P) (sentence : Option (List ℕ)) (fault : PlayFault) → new ≡ h
    → left (Some h) (sentence_outcome new sentence fault) ≡ Some new
sentence_left h new None fault stays = ap Some (sym stays)
sentence_left h new (Some sentence) fault stays = refl

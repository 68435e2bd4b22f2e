-- An answer that is known is the one, but for Memory.
use Rattle.std.proofs.Common.{◌≡◌, ◌⊎◌, ℕ, List, Option, Some, Ok, Err, inl, inr}
use Rattle.needed_items.proofs.ItemLaws.{ItemLaws}
use Rattle.play_midend.specs.Histories.{History}
use Rattle.line_replies.specs.declared.command.Command.TheVariants.{Ask}
use Rattle.line_replies.specs.declared.command.Request.{Request}
use Rattle.line_replies.specs.declared.reply.refusal.Refusal.TheVariants.{Memory}
use Rattle.line_replies.specs.Lines.{Line}
use Rattle.line_replies.specs.GameFacts.{GameFacts}
use Rattle.line_replies.specs.SessionReplies.{Outcome, text_outcome, RequestGives}
use Rattle.line_replies.specs.Replies.{LineGives, AmpleGives}
use Rattle.line_replies.specs.RunLaws.{Asks, IsTheAnswer}
use Rattle.line_replies.proofs.RepliesOnce.{IdsAreReadOnce, outcome_once}
use Rattle.line_replies.proofs.CallReplies.{ample_or_none}

module _ {P : Type 0} (f : GameFacts P) (laws : ItemLaws f.rules) (ids : IdsAreReadOnce f) where
  -- an answer that comes with ample memory is the only one, but for the refusal Memory
  pub given_once : (old new : Option (History P)) (line : Line) (text : List ℕ) → AmpleGives f old line (Ok (text, new))
      → (outcome : Outcome P) → LineGives f old line outcome → (outcome ≡ Ok (text, new)) ⊎ (outcome ≡ Err Memory)
  given_once old new line text ample outcome (read, is, gives) =
      elim (ample_or_none f old read outcome gives) [
        | inl other ↦ inl (outcome_once f laws ids old line outcome (Ok (text, new)) (read, is, other) ample)
        | inr memory ↦ inr memory.1
      ]

  -- an answer to what a line asks of a session is the only one to the line, but for the refusal Memory
  pub the_answer : (h new : History P) (line : Line) (request : Request (List ℕ)) (text : List ℕ) → Asks line request
      → RequestGives f h request (text_outcome new text) → IsTheAnswer f (Some h) line text (Some new)
  the_answer h new line request text asks gives =
      let ample : AmpleGives f (Some h) line (text_outcome new text) = (Ok (Some (Ask request)), asks, gives) in
      record { ample = ample; others = given_once (Some h) (Some new) line text ample }

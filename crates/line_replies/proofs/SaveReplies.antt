-- The answer to `save` begins the session again.
use Rattle.std.proofs.Common.{◌≡◌, ◌<◌, length, codes, Some, Result, Ok, Err, inl, inr, refl, ap, ◌∙◌}
use Rattle.std.proofs.lemmas.Bool.{cases_lt}
use Rattle.needed_items.proofs.ItemLaws.{ItemLaws}
use Rattle.play_midend.specs.Histories.{History, IsStorable}
use Rattle.play_save.specs.declared.fault.LoadFault.{LoadFault}
use Rattle.play_save.specs.declared.fault.LoadFault.TheVariants.{TooLarge}
use Rattle.play_save.specs.declared.save_format.TheConstants.{MOST_BYTES}
use Rattle.play_save.specs.FirstFaults.{load_at}
use Rattle.play_save.specs.Written.{save_of}
use Rattle.play_save.proofs.GameTexts.{Owes}
use Rattle.play_save.proofs.SavedAgain.{load_again}
use Rattle.play_save.proofs.LoadAnswers.{too_large}
use Rattle.play_save.proofs.SavedWritten.{written_is_saved, written_saves_no_other}
use Rattle.line_replies.specs.declared.start.start_fault.StartFault.{StartFault}
use Rattle.line_replies.specs.declared.start.start_fault.StartFault.TheVariants.{Load}
use Rattle.line_replies.specs.declared.command.Command.TheVariants.{Ask}
use Rattle.line_replies.specs.declared.command.Request.TheVariants.{Tell}
use Rattle.line_replies.specs.declared.command.View.TheVariants.{Save}
use Rattle.line_replies.specs.GameFacts.{GameFacts}
use Rattle.line_replies.specs.Starts.{saved_facts, FileBegins}
use Rattle.line_replies.specs.RunLaws.{Asks, IsLoadedBack, SaveLineLoadsBack}
use Rattle.line_replies.proofs.CommandLaws.{word_read}
use Rattle.line_replies.proofs.RepliesOnce.{IdsAreReadOnce}
use Rattle.line_replies.proofs.KnownReplies.{the_answer}

save_asks : Asks (Some (codes "save")) (Tell Save)
save_asks = (codes "save", refl, word_read (codes "save") (Ask (Tell Save)) refl)

module _ {P : Type 0} (f : GameFacts P) (owes : Owes (saved_facts f) f.rules.valid) (h : History P)
    (storable : IsStorable f.rules.puzzle f.rules.valid f.letters h) where
  -- the only first fault of a saved text is that it is too large
  saved_fault : (fault : LoadFault) → load_at (saved_facts f) (save_of f.title f.desc_of h) ≡ Err fault
      → (MOST_BYTES < length (save_of f.title f.desc_of h)) × (fault ≡ TooLarge)
  saved_fault fault is =
      elim (cases_lt MOST_BYTES (length (save_of f.title f.desc_of h))) [
        | inl long ↦ (long, let large = too_large (saved_facts f) (save_of f.title f.desc_of h) long in cc)
        | inr small ↦
            let saved = written_is_saved (saved_facts f) f.rules.valid owes h storable small in
            let read = load_again (saved_facts f) (save_of f.title f.desc_of h) h owes.texts saved in cc
      ]

  -- a saved text begins the session again, or is refused for want of memory, or as too large
  loaded_back : (first : Result (History P) StartFault) → FileBegins f (save_of f.title f.desc_of h) first
      → IsLoadedBack h (save_of f.title f.desc_of h) first
  loaded_back (Ok first) is =
      (written_saves_no_other (saved_facts f) f.rules.valid owes h first storable.session storable.puzzle_is is).0
  loaded_back (Err fault) (inl memory) = inl memory
  loaded_back (Err fault) (inr (inner, none, is)) =
      let long = saved_fault inner none in inr (long.0, is ∙ ap Load long.1)

pub save_line_loads_back : {P : Type 0} (f : GameFacts P) → ItemLaws f.rules → IdsAreReadOnce f
    → Owes (saved_facts f) f.rules.valid → SaveLineLoadsBack f
save_line_loads_back f laws ids owes h storable = (
  save_of f.title f.desc_of h,
  the_answer f laws ids h h (Some (codes "save")) (Tell Save) (save_of f.title f.desc_of h) save_asks refl,
  loaded_back f owes h storable,
  λ small. written_is_saved (saved_facts f) f.rules.valid owes h storable small,
)

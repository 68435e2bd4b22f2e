-- The line `new` with the written form of a puzzle begins a game of that puzzle.
use Rattle.std.proofs.Common.{◌≡◌, ℕ, List, ◌∷◌, ◌++◌, codes, Option, Some, Ok, Err, refl, sym, inr}
use Rattle.byte_text.specs.Bytes.{colon}
use Rattle.game_texts.specs.declared.game_id.GameId.TheVariants.{Described}
use Rattle.game_texts.specs.declared.params.Params.{Params}
use Rattle.game_texts.specs.Parameters.{IsParams, params_text}
use Rattle.needed_items.proofs.ItemLaws.{ItemLaws}
use Rattle.play_midend.specs.Histories.{History}
use Rattle.line_replies.specs.declared.command.Command.TheVariants.{New}
use Rattle.line_replies.specs.declared.reply.refusal.Refusal.TheVariants.{Memory}
use Rattle.line_replies.specs.Commands.{IsRead}
use Rattle.line_replies.specs.GameFacts.{GameFacts}
use Rattle.line_replies.specs.NewSessions.{new_game, TextBegins}
use Rattle.line_replies.specs.SessionReplies.{ok_line}
use Rattle.line_replies.specs.Replies.{LineGives, AmpleGives}
use Rattle.line_replies.specs.RunLaws.{described_line, DescribedLinesBegin}
use Rattle.line_replies.proofs.RepliesOnce.{IdsAreReadOnce}
use Rattle.line_replies.proofs.KnownReplies.{given_once}

-- each puzzle is described by its written form
abbrev pub AreCanonical : {P : Type 0} → GameFacts P → Type 0
AreCanonical {P} f = (p : P) → f.rules.valid p → f.describes (f.desc_of p) p

module _ {P : Type 0} (f : GameFacts P) (canonical : AreCanonical f) (params : Params) (puzzle : P) (letters : IsParams f.letters params)
    (valid : f.rules.valid puzzle) (size : params.size ≡ (f.rules.puzzle puzzle).size) where
  -- the ID of a described game begins a new session of the puzzle
  id_begins : TextBegins f (params_text params ++ colon ∷ f.desc_of puzzle) (Ok (new_game params puzzle))
  id_begins = (Ok (Described params puzzle), (letters, (f.desc_of puzzle, refl, (canonical puzzle valid, valid, sym size))), refl)

  -- the line of a described game is read as `new` with the ID of the game
  line_read : IsRead (described_line f params puzzle) (Ok (Some (New (params_text params ++ colon ∷ f.desc_of puzzle))))
  line_read = (codes "new " ++ params_text params ++ colon ∷ f.desc_of puzzle, refl, inr refl)

  -- the line of a described game begins a new game
  pub begins : (old : Option (History P)) → AmpleGives f old (described_line f params puzzle) (Ok (ok_line, Some (new_game params puzzle)))
  begins old = (Ok (Some (New (params_text params ++ colon ∷ f.desc_of puzzle))), line_read, (Ok (new_game params puzzle), id_begins, refl))

  -- the line of a described game may be refused for want of memory
  pub described_may_lack : (old : Option (History P)) → LineGives f old (described_line f params puzzle) (Err Memory)
  described_may_lack old =
      (Ok (Some (New (params_text params ++ colon ∷ f.desc_of puzzle))), line_read, inr ((new_game params puzzle, id_begins), refl))

-- with ample memory the line of a described game begins that game, and has no other answer
pub described_lines_begin : {P : Type 0} (f : GameFacts P) → ItemLaws f.rules → IdsAreReadOnce f → AreCanonical f → DescribedLinesBegin f
described_lines_begin f laws ids canonical old params puzzle letters valid size =
    let ample = begins f canonical params puzzle letters valid size old in
    record { ample = ample; others = given_once f laws ids old (Some (new_game params puzzle)) (described_line f params puzzle) ok_line ample }

-- The pieces that commas separate, one by one.
use Rattle.std.proofs.lemmas.Bool.Decides.{nat_tests}
use Rattle.std.proofs.Common.{◌≡◌, ◌≢◌, ℕ, ◌<◌, List, [], ◌∷◌, ◌++◌, length, Option, Some, Err, refl, sym, ap, ◌∙◌, inl, inr, arith, append_assoc, length-append}
use Rattle.std.specs.List.{join_with_byte}
use Rattle.std.proofs.lemmas.List.Splits.{join_with_byte-slice_split}
use Rattle.byte_text.specs.Cuts.{before, behind}
use Rattle.byte_text.specs.Bytes.{comma}
use Rattle.game_texts.specs.declared.id_fault.IdFault.TheVariants.{TooMany}
use Rattle.unequal_game.specs.UnequalText.{pieces_of}
use Rattle.unequal_game.specs.Inner.UnequalPieces.{IsWithoutLastComma}
use Rattle.game_texts.specs.IdFaults.{exactly}
use Rattle.unequal_game.specs.Laws.Pieces.{comma_pieces, pieces_left, split_once, join-push, dropped_last, drop-push, pieces-push}
use Rattle.game_texts.specs.Laws.Exactly.{exactly_few, exactly_many}

-- to drop a comma at the end is to drop the empty last piece, where more than one piece is wanted
pub pieces_without_comma : (text rest : List ℕ) (wanted : ℕ) → 1 < wanted → IsWithoutLastComma text rest
    → exactly wanted (comma_pieces rest) ≡ exactly wanted (pieces_of text)
pieces_without_comma text rest wanted some h = elim h [
  | inl comma ↦ rw (comma, pieces-push rest, drop-push (comma_pieces rest)) refl
  | inr none ↦ rw (← none.0) (same text (λ front. none.1 front))
]
  where
    empty_last : (text : List ℕ) (ps : List (List ℕ)) → ((front : List ℕ) → text ≢ front ++ comma ∷ [])
        → comma_pieces text ≡ ps ++ [] ∷ [] → exactly wanted (ps ++ [] ∷ []) ≡ exactly wanted ps
    empty_last text [] lacks e = exactly_few wanted ([] ∷ []) some ∙ sym (exactly_few wanted [] (omega arith))
    empty_last text (p ∷ ps) lacks e =
        let joined : text ≡ join_with_byte comma (p ∷ ps) ++ comma ∷ [] =
        sym (join_with_byte-slice_split comma text) ∙ ap (join_with_byte comma) e ∙ join-push comma p ps in
        absurd (lacks (join_with_byte comma (p ∷ ps)) joined)

    same : (text : List ℕ) → ((front : List ℕ) → text ≢ front ++ comma ∷ [])
        → exactly wanted (comma_pieces text) ≡ exactly wanted (pieces_of text)
    same text lacks = elim (dropped_last (comma_pieces text)) [
      | inl e ↦ ap (exactly wanted) (sym e)
      | inr e ↦ ap (exactly wanted) e ∙ empty_last text (pieces_of text) lacks e
    ]

-- once a piece is taken, fewer pieces are left of the text
pub pieces_shorter : (o after : Option (List ℕ)) (bytes : List ℕ) → o ≡ Some bytes → after ≡ behind comma bytes
    → length (pieces_left after) < length (pieces_left o)
pieces_shorter o after bytes e f = grind (arith, nat_tests, split_once)

-- the pieces so far, then the next piece, and then those of the text after it are all pieces
pub pieces_step : (ps : List (List ℕ)) (o after : Option (List ℕ)) (bytes piece : List ℕ) (all : List (List ℕ))
    → ps ++ pieces_left o ≡ all → o ≡ Some bytes → piece ≡ before comma bytes → after ≡ behind comma bytes
    → (ps ++ piece ∷ []) ++ pieces_left after ≡ all
pieces_step ps o after bytes piece all h e f g =
    let here : piece ∷ pieces_left after ≡ pieces_left o = rw (e, f, g) (sym (split_once bytes)) in
    append_assoc ps (piece ∷ []) (pieces_left after) ∙ ap (λ qs. ps ++ qs) here ∙ h

-- if there are as many pieces as are wanted and some text is left, there are too many
pub pieces_over : (ps all : List (List ℕ)) (o : Option (List ℕ)) (bytes : List ℕ) (wanted : ℕ) → ps ++ pieces_left o ≡ all
    → o ≡ Some bytes → length ps ≡ wanted → exactly wanted all ≡ Err TooMany
pieces_over ps all o bytes wanted h e full = grind (arith, nat_tests, split_once, length-append, exactly_many)

-- The pieces that commas separate: joined again, and with a comma at the end.
use Rattle.std.proofs.Common.{◌≡◌, ℕ, ◌⊎◌, true, false, List, [], ◌∷◌, ◌++◌, Option, Some, None, refl, sym, ap, ◌∙◌}
use Rattle.std.proofs.Common.{inl, inr, append_assoc, ◌==◌, if◌then◌else◌}
use Rattle.std.specs.List.{slice_split, join_with_byte, onto_first}
use Rattle.byte_text.specs.Cuts.{before, behind}
use Rattle.byte_text.proofs.CutLaws.{cut_whole, pieces_more, pieces_last}
use Rattle.byte_text.specs.Bytes.{comma}
use Rattle.unequal_game.specs.UnequalText.{without_empty_last}

-- what commas separate, an empty piece at the end too
abbrev pub comma_pieces : List ℕ → List (List ℕ)
comma_pieces bs = slice_split (λ b. b == comma) bs

-- the pieces of what is left of a text
abbrev pub pieces_left : Option (List ℕ) → List (List ℕ)
pieces_left None = []
pieces_left (Some rest) = comma_pieces rest

-- the pieces of a text are what comes before its first comma, and those of what comes after
pub split_once : (bs : List ℕ) → comma_pieces bs ≡ before comma bs ∷ pieces_left (behind comma bs)
split_once bs =
    elim (behind comma bs) as (λ o. behind comma bs ≡ o → comma_pieces bs ≡ before comma bs ∷ pieces_left o) [
      | None ↦ λ e. pieces_last comma bs e ∙ ap (λ xs. xs ∷ []) (sym (cut_whole comma bs e))
      | Some rest ↦ λ e. pieces_more comma bs rest e
    ] refl

-- an empty piece more at the end is a separator more
pub join-push : (c : ℕ) (p : List ℕ) (ps : List (List ℕ))
    → join_with_byte c ((p ∷ ps) ++ [] ∷ []) ≡ join_with_byte c (p ∷ ps) ++ c ∷ []
join-push c p [] = refl
join-push c p (q ∷ ps) = rw (join-push c q ps) (sym (append_assoc p (c ∷ join_with_byte c (q ∷ ps)) (c ∷ [])))

-- only an empty piece at the end is dropped
pub dropped_last : (ps : List (List ℕ)) → (without_empty_last ps ≡ ps) ⊎ (ps ≡ without_empty_last ps ++ [] ∷ [])
dropped_last [] = inl refl
dropped_last ([] ∷ []) = inr refl
dropped_last ((b ∷ bs) ∷ []) = inl refl
dropped_last (p ∷ q ∷ ps) = elim (dropped_last (q ∷ ps)) [
  | inl e ↦ inl (ap (λ qs. p ∷ qs) e)
  | inr e ↦ inr (ap (λ qs. p ∷ qs) e)
]

-- an empty last piece is dropped again
pub drop-push : (ps : List (List ℕ)) → without_empty_last (ps ++ [] ∷ []) ≡ ps
drop-push [] = refl
drop-push ([] ∷ []) = refl
drop-push ((b ∷ bs) ∷ []) = refl
drop-push (p ∷ q ∷ ps) = ap (λ qs. p ∷ qs) (drop-push (q ∷ ps))

-- a comma at the end makes an empty piece more
pub pieces-push : (bs : List ℕ) → comma_pieces (bs ++ comma ∷ []) ≡ comma_pieces bs ++ [] ∷ []
pieces-push [] = refl
pieces-push (b ∷ bs) =
    elim (b == comma) as
    (λ t. (if t then ([] ∷ comma_pieces (bs ++ comma ∷ [])) else onto_first b (comma_pieces (bs ++ comma ∷ [])))
    ≡ (if t then ([] ∷ comma_pieces bs) else onto_first b (comma_pieces bs)) ++ [] ∷ []) [
      | true ↦ ap (λ ps. [] ∷ ps) (pieces-push bs)
      | false ↦ rw (pieces-push bs, split_once bs) refl
    ]

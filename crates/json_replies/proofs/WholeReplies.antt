-- The lines of a reply of whole lines, each with LF, are the reply.
use Rattle.std.proofs.Common.{◌≡◌, ℕ, ◌-◌, ◌≤◌, ◌==◌, true, false, if◌then◌else◌, List, [], ◌∷◌, ◌++◌, length, take, refl, sym, ap, ap₂, ◌∙◌, inl, inr, arith}
use Rattle.std.proofs.Math.Seq.{take-append_seam}
use Rattle.std.proofs.lemmas.Bool.{eqb-true}
use Rattle.std.proofs.lemmas.List.{length_push}
use Rattle.line_replies.specs.Lines.{onto, segments}
use Rattle.json_replies.specs.Texts.{lines_of, lines_text}
use Rattle.json_replies.specs.ReplyLaws.{LinesAreTheReply}
use Rattle.json_replies.proofs.ReplyLines.{some_segments}

-- a byte put before the first segment leaves the empty one at the end as it is
onto_more : (b : ℕ) (ps : List (List ℕ)) → 1 ≤ length ps → onto b (ps ++ [] ∷ []) ≡ onto b ps ++ [] ∷ []
onto_more b [] some = absurd (omega arith)
onto_more b (p ∷ ps) some = refl

-- a byte put before the first segment is put before the text of the segments
onto_text : (b : ℕ) (ps : List (List ℕ)) → 1 ≤ length ps → lines_text (onto b ps) ≡ b ∷ lines_text ps
onto_text b [] some = absurd (omega arith)
onto_text b (p ∷ ps) some = refl

-- LF at the end begins an empty segment
segments_end : (front : List ℕ) → segments (front ++ 10 ∷ []) ≡ segments front ++ [] ∷ []
segments_end [] = refl
segments_end (b ∷ bs) =
    elim (b == 10) as (λ t. (if t then [] ∷ segments (bs ++ 10 ∷ []) else onto b (segments (bs ++ 10 ∷ [])))
    ≡ (if t then [] ∷ segments bs else onto b (segments bs)) ++ [] ∷ []) [
      | true ↦ ap (λ ps. [] ∷ ps) (segments_end bs)
      | false ↦ ap (onto b) (segments_end bs) ∙ onto_more b (segments bs) (some_segments bs)
    ]

-- the segments of a text, each with LF, are the text and LF
segments_text : (front : List ℕ) → lines_text (segments front) ≡ front ++ 10 ∷ []
segments_text [] = refl
segments_text (b ∷ bs) =
    elim (b == 10) as (λ t. (b == 10) ≡ t → lines_text (if t then [] ∷ segments bs else onto b (segments bs)) ≡ b ∷ (bs ++ 10 ∷ [])) [
      | true ↦ λ is. ap₂ (λ x xs. x ∷ xs) (sym (eqb-true b 10 is)) (segments_text bs)
      | false ↦ λ is. onto_text b (segments bs) (some_segments bs) ∙ ap (λ xs. b ∷ xs) (segments_text bs)
    ] refl

-- all but the last of a list and one item are the list
all_but_last : {A : Type 0} (xs : List A) (x : A) → take (length (xs ++ x ∷ []) - 1) (xs ++ x ∷ []) ≡ xs
all_but_last xs x =
    let n : length (xs ++ x ∷ []) - 1 ≡ length xs = omega (arith, length_push xs x) in
    ap (λ k. take k (xs ++ x ∷ [])) n ∙ take-append_seam xs (x ∷ [])

-- the lines of a text and LF are the segments of the text
lines_of_end : (front : List ℕ) → lines_of (front ++ 10 ∷ []) ≡ segments front
lines_of_end front = ap (λ ps. take (length ps - 1) ps) (segments_end front) ∙ all_but_last (segments front) []

-- the lines of an object, one after another, are the plain reply
pub lines_are_the_reply : LinesAreTheReply
lines_are_the_reply said (inl none) = ap (λ s. lines_text (lines_of s)) none ∙ sym none
lines_are_the_reply said (inr (front, is)) =
    ap (λ s. lines_text (lines_of s)) is ∙ ap lines_text (lines_of_end front) ∙ segments_text front ∙ sym is

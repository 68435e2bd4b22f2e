-- The pictures of both games are whole lines.
use Rattle.std.proofs.Common.{ℕ, ◌+◌, ◌-◌, ◌*◌, List, [], ◌∷◌, ◌++◌, map, refl, sym, ap, ◌∙◌, subst, inl, inr}
use Rattle.std.specs.List.{flat_map, join_with_byte, range_with_len}
use Rattle.std.proofs.lemmas.List.{append_assoc}
use Rattle.std.proofs.lemmas.List.Concat.{flat_map-cons}
use Rattle.byte_text.specs.Bytes.{line_feed, space}
use Rattle.latin_board.specs.Boards.{BoardValue}
use Rattle.towers_game.specs.Towers.{TowersValue}
use Rattle.unequal_game.specs.Unequal.{UnequalValue}
use Rattle.line_replies.specs.Symbols.{square_at, spaced_line}
use Rattle.line_replies.specs.TowersPicture.{clue_row, towers_row, towers_picture}
use Rattle.line_replies.specs.UnequalPicture.{sign_before, sign_above, squares_line, signs_line, unequal_picture}
use Rattle.line_replies.specs.WholeLines.{EndsInLineFeed, AreWholeLines}

-- ---- whole lines in general

-- a text that ends with LF does so behind any front
pub ends_after : (front text : List ℕ) → EndsInLineFeed text → EndsInLineFeed (front ++ text)
ends_after front text (line, is) = (front ++ line, ap (λ t. front ++ t) is ∙ sym (append_assoc front line (line_feed ∷ [])))

-- two texts of whole lines, one after the other, are whole lines
pub both_whole : (one other : List ℕ) → AreWholeLines one → AreWholeLines other → AreWholeLines (one ++ other)
both_whole one other first (inr ends) = inr (ends_after one other ends)
both_whole one other (inl none) (inl nothing) = inl (ap (λ t. t ++ other) none ∙ nothing)
both_whole one other (inr (line, is)) (inl nothing) =
    inr (line, ap (λ t. t ++ other) is ∙ append_assoc line (line_feed ∷ []) other ∙ ap (λ t. line ++ line_feed ∷ t) nothing)

-- any number of texts of whole lines, one after another, are whole lines
pub each_whole : {A : Type 0} (text_of : A → List ℕ) → ((x : A) → AreWholeLines (text_of x)) → (xs : List A) → AreWholeLines (flat_map text_of xs)
each_whole text_of whole [] = inl refl
each_whole text_of whole (x ∷ xs) =
    subst AreWholeLines (sym (flat_map-cons text_of x xs)) (both_whole (text_of x) (flat_map text_of xs) (whole x) (each_whole text_of whole xs))

-- a text and LF are whole lines
pub line_whole : (line : List ℕ) → AreWholeLines (line ++ line_feed ∷ [])
line_whole line = inr (line, refl)

-- ---- the pictures

spaced_whole : (symbols : List ℕ) → AreWholeLines (spaced_line symbols)
spaced_whole symbols = line_whole (join_with_byte space (map (λ symbol. symbol ∷ []) symbols))

-- the picture of a Towers board is whole lines
pub towers_whole : (p : TowersValue) (b : BoardValue) → AreWholeLines (towers_picture p b)
towers_whole p b =
    let rows = flat_map (λ y. spaced_line (towers_row p b y)) (range_with_len 0 p.size) in
    both_whole (spaced_line (clue_row p 0)) (rows ++ spaced_line (clue_row p p.size)) (spaced_whole (clue_row p 0))
    (both_whole rows (spaced_line (clue_row p p.size))
    (each_whole (λ y. spaced_line (towers_row p b y)) (λ y. spaced_whole (towers_row p b y)) (range_with_len 0 p.size))
    (spaced_whole (clue_row p p.size)))

squares_whole : (v : UnequalValue) (b : BoardValue) (first : ℕ) → AreWholeLines (squares_line v b first)
squares_whole v b first =
    line_whole (square_at b first
    ∷ flat_map (λ x. sign_before v (first + x) ∷ square_at b (first + x) ∷ []) (range_with_len 1 (v.size - 1)))

signs_whole : (v : UnequalValue) (first : ℕ) → AreWholeLines (signs_line v first)
signs_whole v first = spaced_whole (map (λ x. sign_above v (first + x)) (range_with_len 0 v.size))

-- the picture of an Unequal board is whole lines
pub unequal_whole : (v : UnequalValue) (b : BoardValue) → AreWholeLines (unequal_picture v b)
unequal_whole v b =
    let row = λ (y : ℕ). signs_line v (y * v.size) ++ squares_line v b (y * v.size) in
    both_whole (squares_line v b 0) (flat_map row (range_with_len 1 (v.size - 1))) (squares_whole v b 0)
    (each_whole row (λ y. both_whole (signs_line v (y * v.size)) (squares_line v b (y * v.size))
    (signs_whole v (y * v.size)) (squares_whole v b (y * v.size))) (range_with_len 1 (v.size - 1)))

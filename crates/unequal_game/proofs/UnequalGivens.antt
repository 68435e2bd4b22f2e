-- The numbers of the pieces of a description, read one by one into a list.
use Rattle.std.proofs.Common.{◌≡◌, ℕ, ◌+◌, ◌<◌, ◌≤◌, true, false, List, [], ◌∷◌, ◌++◌, length, set, take, map, Option, Some, None, unwrap_or, is_some, Bor, take_all, refl, sym, ap, ◌∙◌, arith, if◌then◌else◌, slice_index_or}
use Rattle.std.specs.List.{list_all}
use Rattle.std.proofs.lemmas.List.{get_or-map, take_more, take_more_set, map-append}
use Rattle.std.proofs.lemmas.List.Folds.{list_all-append, list_all-map, list_all_at}
use Rattle.latin_board.specs.Squares.{GridValue}
use Rattle.unequal_game.specs.Inner.UnequalPieces.{texts_of}
use Rattle.unequal_game.specs.UnequalText.{number_in, begins_with_number, has_letters, grid_in}

-- with one piece more that has a number, the pieces still begin with numbers, and the list has these
pub good_more : (w i n : ℕ) (pieces : List (List ℕ)) → i < length pieces → list_all (begins_with_number w) (take i pieces) ≡ true
    → number_in w (slice_index_or pieces i []) ≡ Some n → list_all (begins_with_number w) (take (i + 1) pieces) ≡ true
good_more w i n pieces inside before here =
    let good : begins_with_number w (slice_index_or pieces i []) ≡ true = ap is_some here in
    rw (take_more pieces i [] inside, list_all-append (begins_with_number w) (take i pieces) (slice_index_or pieces i [] ∷ []), before, good) refl

pub numbers_more : (w i n : ℕ) (pieces : List (List ℕ)) (numbers : List ℕ) → i < length pieces → i < length numbers
    → number_in w (slice_index_or pieces i []) ≡ Some n → take i numbers ≡ map (λ p. unwrap_or (number_in w p) 0) (take i pieces)
    → take (i + 1) (set numbers i n) ≡ map (λ p. unwrap_or (number_in w p) 0) (take (i + 1) pieces)
numbers_more w i n pieces numbers inside room here before =
    let number : n ≡ unwrap_or (number_in w (slice_index_or pieces i [])) 0 = ap (λ o. unwrap_or o 0) (sym here) in
    rw (take_more_set numbers i n room, take_more pieces i [] inside, map-append (λ p. unwrap_or (number_in w p) 0) (take i pieces) (slice_index_or pieces i [] ∷ []), before)
    (ap (λ m. map (λ p. unwrap_or (number_in w p) 0) (take i pieces) ++ m ∷ []) number)

-- if one piece begins with no number, not all of them begin with one
pub bad_piece : (w i : ℕ) (pieces : List (List ℕ)) → i < length pieces → number_in w (slice_index_or pieces i []) ≡ None
    → list_all (begins_with_number w) pieces ≡ false
bad_piece w i pieces inside none = list_all_at (begins_with_number w) pieces i [] inside (ap is_some none)

-- the number of the piece at a place is the same by its reference and by its text
pub piece_here : (pieces : List (Bor (List ℕ))) (i w : ℕ) (d : Bor (List ℕ)) (o : Option ℕ) → i < length pieces
    → o ≡ number_in w (slice_index_or pieces i d).now → number_in w (slice_index_or (texts_of pieces) i []) ≡ o
piece_here pieces i w d o inside e = rw (get_or-map (λ p. p.now) pieces i d [] inside) (sym e)

-- once all pieces are read, the grid has their numbers
pub givens_read : (w i : ℕ) (g : GridValue) (pieces : List (List ℕ)) → g.size ≡ w → length g.numbers ≡ length pieces
    → length pieces ≤ i → list_all (begins_with_number w) (take i pieces) ≡ true
    → take i g.numbers ≡ map (λ p. unwrap_or (number_in w p) 0) (take i pieces)
    → Some g ≡ (if list_all (begins_with_number w) pieces then Some (grid_in w pieces) else None)
givens_read w i g pieces size count all good numbers =
    let whole : take i pieces ≡ pieces = take_all i pieces all in
    let read : g.numbers ≡ map (λ p. unwrap_or (number_in w p) 0) pieces =
    sym (take_all i g.numbers (omega arith)) ∙ numbers ∙ ap (map (λ p. unwrap_or (number_in w p) 0)) whole in
    let each : list_all (begins_with_number w) pieces ≡ true = rw whole at good in
    let same : g ≡ grid_in w pieces = λ j. record { size = size j; numbers = read j } in
    rw each (ap (λ x. Some x) same)

-- the test of all letters is the same by references to the pieces and by their texts
pub letters_of_texts : (pieces : List (Bor (List ℕ))) → list_all (λ p. has_letters p.now) pieces ≡ list_all has_letters (texts_of pieces)
letters_of_texts pieces = sym (list_all-map has_letters (λ p. p.now) pieces)

-- the text of the piece at a place is the same by its reference and in the list of texts
pub text_at : (pieces : List (Bor (List ℕ))) (i : ℕ) (d : Bor (List ℕ)) → i < length pieces
    → (slice_index_or pieces i d).now ≡ slice_index_or (texts_of pieces) i []
text_at pieces i d inside = sym (get_or-map (λ p. p.now) pieces i d [] inside)

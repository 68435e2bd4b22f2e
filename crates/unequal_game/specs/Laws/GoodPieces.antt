-- The pieces of a description: from the text and back, and when there is no fault in them.
use Rattle.std.proofs.lemmas.Bool.Decides.{nat_tests}
use Rattle.std.proofs.Common.{◌≡◌, ℕ, ◌*◌, ◌<◌, ◌≤◌, true, false, List, [], ◌∷◌, ◌++◌, length, map, Some, is_some}
use Rattle.std.proofs.Common.{unwrap_or, Ok, refl, sym, ap, ◌∙◌, inl, inr, arith}
use Rattle.std.specs.List.{list_all, range_with_len, join_with_byte, Contains, AllByRecursion}
use Rattle.std.specs.Option.{IsSome}
use Rattle.std.proofs.lemmas.Bool.{and_parts}
use Rattle.std.proofs.lemmas.List.{length-map}
use Rattle.std.proofs.lemmas.List.Elements.{All-from_recursion}
use Rattle.std.proofs.lemmas.List.Splits.{join_with_byte-slice_split}
use Rattle.byte_text.specs.Cuts.{Lacks}
use Rattle.byte_text.specs.Bytes.{comma}
use Rattle.byte_text.proofs.CutLaws.{pieces_join}
use Rattle.unequal_game.specs.declared.unequal.direction.Direction.{Direction}
use Rattle.unequal_game.specs.Unequal.{UnequalValue, IsUnequal, neighbour}
use Rattle.unequal_game.specs.UnequalText.{Piece, letter_of, piece_text, without_empty_last, pieces_of, number_in}
use Rattle.unequal_game.specs.UnequalText.{begins_with_number, direction_of, has_letters, is_inside, points_inside, sign_said}
use Rattle.unequal_game.specs.UnequalText.{contradicts, grid_in, puzzle_in, puzzle_at, ArePiecesOf}
use Rattle.unequal_game.specs.Laws.Pieces.{comma_pieces, join-push, dropped_last, drop-push, pieces-push}
use Rattle.unequal_game.specs.Laws.Letters.{direction_of-letter, contains_here, contains_there, contains_cases}
use Rattle.unequal_game.specs.Laws.Letters.{number_in-piece, letters_piece, lacks_comma, read_piece, read_piece_written, number_small}
use Rattle.game_texts.specs.Laws.Refusals.{refused_then}
use Rattle.unequal_game.specs.Laws.Signs.{signed_valid}

-- reading that succeeds

-- pieces in which there is no fault
pub record AreGood (w : ℕ) (pieces : List (List ℕ)) : Type 0 where
  pub numbers : list_all (begins_with_number w) pieces ≡ true
  pub letters : list_all has_letters pieces ≡ true
  pub inside : list_all (points_inside w pieces) (range_with_len 0 (w * w)) ≡ true
  pub agree : contradicts w pieces ≡ false

pub good_taken : (w : ℕ) (pieces : List (List ℕ)) (v : UnequalValue) → puzzle_at w pieces ≡ Ok v
    → AreGood w pieces × (puzzle_in w pieces ≡ v)
good_taken w pieces v h = grind (arith, nat_tests, refused_then)

pub good_again : (w : ℕ) (pieces : List (List ℕ)) → AreGood w pieces → puzzle_at w pieces ≡ Ok (puzzle_in w pieces)
good_again w pieces h = rw (h.numbers, h.letters, h.inside, h.agree) refl

-- pieces that are read and written again are the same bytes
pub read_pieces : (w : ℕ) (bytes : List (List ℕ)) → list_all (begins_with_number w) bytes ≡ true
    → list_all has_letters bytes ≡ true
    → map piece_text (map (read_piece w) bytes) ≡ bytes
read_pieces w [] numbers letters = refl
read_pieces w (p ∷ ps) numbers letters =
    let number = and_parts (begins_with_number w p) (list_all (begins_with_number w) ps) numbers in
    let letter = and_parts (has_letters p) (list_all has_letters ps) letters in
    rw (read_piece_written w p number.0 letter.0, read_pieces w ps number.1 letter.1) refl

pub map-number : (w : ℕ) (bytes : List (List ℕ))
    → map (λ p. p.number) (map (read_piece w) bytes) ≡ map (λ p. unwrap_or (number_in w p) 0) bytes
map-number w [] = refl
map-number w (p ∷ ps) = ap (λ ns. unwrap_or (number_in w p) 0 ∷ ns) (map-number w ps)

pub numbers_within : (w : ℕ) (bytes : List (List ℕ))
    → AllByRecursion (λ n. n ≤ w) (map (λ p. unwrap_or (number_in w p) 0) bytes)
numbers_within w [] = tt
numbers_within w (p ∷ ps) = (number_small w p, numbers_within w ps)

pub read_valid : (w : ℕ) (bytes : List (List ℕ)) → 3 ≤ w → w ≤ 9 → length bytes ≡ w * w → IsUnequal (puzzle_in w bytes)
read_valid w bytes small large count = signed_valid w (sign_said w bytes) (grid_in w bytes).numbers (record {
  smallest = small;
  largest = large;
  count = length-map bytes _ ∙ count;
  within = All-from_recursion (λ n. n ≤ w) _ (numbers_within w bytes);
})

-- the letters of a square point to squares of the grid exactly if its directions do
pub letters_inside : (w cell : ℕ) (ds : List Direction) (d : Direction)
    → list_all (is_inside w cell) (map letter_of ds) ≡ true
    → Contains ds d → IsSome (neighbour w cell d)
letters_inside w cell [] d e h = absurd (omega (arith, h.1))
letters_inside w cell (x ∷ ds) d e h =
    let parts = and_parts (is_inside w cell (letter_of x)) (list_all (is_inside w cell) (map letter_of ds)) e in
    elim (contains_cases d x ds h) [
      | inl here ↦
          let known : direction_of (letter_of d) ≡ Some d = direction_of-letter d in
          let mine : is_inside w cell (letter_of d) ≡ true = rw (← here) parts.0 in
          rw known at mine
      | inr there ↦ letters_inside w cell ds d parts.1 there
    ]

pub inside_letters : (w cell : ℕ) (ds : List Direction)
    → ((d : Direction) → Contains ds d → IsSome (neighbour w cell d))
    → list_all (is_inside w cell) (map letter_of ds) ≡ true
inside_letters w cell [] h = refl
inside_letters w cell (x ∷ ds) h =
    let first : is_inside w cell (letter_of x) ≡ true = rw (direction_of-letter x) (h x (contains_here x x ds refl)) in
    rw (first, inside_letters w cell ds (λ d there. h d (contains_there d x ds there))) refl

-- the text, from its pieces and back

pub joined_text : (text : List ℕ) (p : List ℕ) (ps : List (List ℕ)) → pieces_of text ≡ p ∷ ps
    → ArePiecesOf text (p ∷ ps)
joined_text text p ps e =
    let whole : text ≡ join_with_byte comma (comma_pieces text) = sym (join_with_byte-slice_split comma text) in
    elim (dropped_last (comma_pieces text)) [
      | inl same ↦ inl (whole ∙ ap (join_with_byte comma) (sym same ∙ e))
      | inr more ↦ inr (whole ∙ ap (join_with_byte comma) (more ∙ ap (λ qs. qs ++ [] ∷ []) e) ∙ join-push comma p ps)
    ]

pub all_lack : (pieces : List Piece) → AllByRecursion (Lacks comma) (map piece_text pieces)
all_lack [] = tt
all_lack (p ∷ ps) = (lacks_comma p, all_lack ps)

pub none_empty : (p : Piece) (pieces : List Piece)
    → without_empty_last (map piece_text (p ∷ pieces)) ≡ map piece_text (p ∷ pieces)
none_empty p [] = refl
none_empty p (q ∷ pieces) = ap (λ qs. piece_text p ∷ qs) (none_empty q pieces)

pub pieces_again : (text : List ℕ) (p : Piece) (pieces : List Piece) → ArePiecesOf text (map piece_text (p ∷ pieces))
    → pieces_of text ≡ map piece_text (p ∷ pieces)
pieces_again text p pieces h =
    let split : comma_pieces (join_with_byte comma (map piece_text (p ∷ pieces))) ≡ map piece_text (p ∷ pieces) =
    pieces_join comma (map piece_text (p ∷ pieces)) (omega arith) (all_lack (p ∷ pieces)) in
    elim h [
      | inl same ↦ rw (same, split) (none_empty p pieces)
      | inr more ↦
          rw (more, pieces-push (join_with_byte comma (map piece_text (p ∷ pieces))), split)
          (drop-push (map piece_text (p ∷ pieces)))
    ]

pub some_pieces : (text : List ℕ) (pieces : List Piece) → 0 < length pieces → pieces_of text ≡ map piece_text pieces
    → ArePiecesOf text (map piece_text pieces)
some_pieces text [] some e = absurd (omega arith)
some_pieces text (p ∷ pieces) some e = joined_text text (piece_text p) (map piece_text pieces) e

pub pieces_some : (text : List ℕ) (pieces : List Piece) → 0 < length pieces → ArePiecesOf text (map piece_text pieces)
    → pieces_of text ≡ map piece_text pieces
pieces_some text [] some h = absurd (omega arith)
pieces_some text (p ∷ pieces) some h = pieces_again text p pieces h

-- a grid has at least one square
pub square_some : (w : ℕ) → 3 ≤ w → 0 < w * w
square_some w small = grind arith

pub good_numbers : (w : ℕ) (pieces : List Piece) → AllByRecursion (λ n. n ≤ w) (map (λ p. p.number) pieces)
    → list_all (begins_with_number w) (map piece_text pieces) ≡ true
good_numbers w [] h = refl
good_numbers w (p ∷ pieces) h =
    let first : begins_with_number w (piece_text p) ≡ true = ap is_some (number_in-piece w p h.0) in
    rw (first, good_numbers w pieces h.1) refl

pub good_letters : (pieces : List Piece) → list_all has_letters (map piece_text pieces) ≡ true
good_letters [] = refl
good_letters (p ∷ pieces) = rw (letters_piece p, good_letters pieces) refl

pub numbers_again : (w : ℕ) (pieces : List Piece) → AllByRecursion (λ n. n ≤ w) (map (λ p. p.number) pieces)
    → map (λ p. unwrap_or (number_in w p) 0) (map piece_text pieces) ≡ map (λ p. p.number) pieces
numbers_again w [] h = refl
numbers_again w (p ∷ pieces) h =
    let first : unwrap_or (number_in w (piece_text p)) 0 ≡ p.number =
    ap (λ o. unwrap_or o 0) (number_in-piece w p h.0) in
    rw (first, numbers_again w pieces h.1) refl

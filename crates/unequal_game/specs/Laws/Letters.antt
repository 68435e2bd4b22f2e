-- Letters and numbers as the bytes of a piece: what is read of a piece that was written, and what is written of one
-- that was read.
use Rattle.std.proofs.Common.{◌≡◌, ◌≢◌, ℕ, zero, suc, ◌+◌, ◌<◌, ◌≤◌, ◌⊎◌, Bool, true, false}
use Rattle.std.proofs.Common.{List, [], ◌∷◌, length, drop, map, Option, Some, None, is_some, unwrap_or, refl, sym, ap, ◌∙◌, inl, inr, arith, ◌==◌}
use Rattle.std.specs.List.{list_all, list_any, filter, filter_map, Contains}
use Rattle.std.proofs.lemmas.Bool.{eq-eqb, false≢true, and_parts, cond_both, or_cases, or_right}
use Rattle.std.proofs.lemmas.Bool.Decides.{nat_tests}
use Rattle.byte_text.specs.Cuts.{Lacks}
use Rattle.byte_text.specs.Decimals.{begins_digit}
use Rattle.byte_text.specs.Bytes.{comma, digit_zero}
use Rattle.unequal_game.specs.declared.unequal.direction.Direction.{Direction}
use Rattle.unequal_game.specs.declared.unequal.direction.Direction.TheVariants.{Up, Right, Down, Left}
use Rattle.unequal_game.specs.UnequalText.{Piece, letter_of, piece_text, directions_at, number_in, begins_with_number}
use Rattle.unequal_game.specs.UnequalText.{direction_of, has_letters, piece_at, says}

-- directions and letters

-- the letter of a direction is read as that direction
pub direction_of-letter : (d : Direction) → direction_of (letter_of d) ≡ Some d
direction_of-letter d = grind (arith, nat_tests)

pub letter_of-direction : (b : ℕ) (d : Direction) → direction_of b ≡ Some d → letter_of d ≡ b
letter_of-direction b d e = grind (arith, nat_tests)

pub same_letter : (d e : Direction) → (letter_of d == letter_of e) ≡ true → d ≡ e
same_letter d e h = grind (arith, nat_tests, direction_of-letter)

letter_no_comma : (d : Direction) → letter_of d ≢ comma
letter_no_comma d e = grind (arith, nat_tests)

-- members of lists

-- a list has its head
pub contains_here : {X : Type 0} (x y : X) (xs : List X) → y ≡ x → Contains (y ∷ xs) x
contains_here x y xs e = (0, omega arith, e)

-- a list has what its tail has
pub contains_there : {X : Type 0} (x y : X) (xs : List X) → Contains xs x → Contains (y ∷ xs) x
contains_there x y xs (k, inside, here) = (suc k, omega (arith, inside), here)

-- what a list has is its head or in its tail
pub contains_cases : {X : Type 0} (x y : X) (xs : List X) → Contains (y ∷ xs) x → (y ≡ x) ⊎ Contains xs x
contains_cases x y xs (zero, inside, here) = inl here
contains_cases x y xs (suc k, inside, here) = inr (k, omega (arith, inside), here)

pub contains_filter : {X : Type 0} (p : X → Bool) (x : X) (xs : List X) → Contains xs x → p x ≡ true
    → Contains (filter p xs) x
contains_filter p x [] h e = absurd (omega (arith, h.1))
contains_filter p x (y ∷ xs) h e = elim (contains_cases x y xs h) [
  | inl here ↦ rw (ap p here ∙ e) (contains_here x y (filter p xs) here)
  | inr there ↦
      let rest = contains_filter p x xs there e in
      cond_both (p y) (y ∷ filter p xs) (filter p xs) (λ ys. Contains ys x)
      (λ is. contains_there x y (filter p xs) rest) (λ is. rest)
]

pub filter_contains : {X : Type 0} (p : X → Bool) (x : X) (xs : List X) → Contains (filter p xs) x → p x ≡ true
filter_contains p x [] h = absurd (omega (arith, h.1))
filter_contains p x (y ∷ xs) h = grind (arith, nat_tests, contains_cases, filter_contains p x xs)

-- a letter among letters is its direction among directions

pub letter_among : (ds : List Direction) (d : Direction) → Contains ds d
    → list_any (λ b. b == letter_of d) (map letter_of ds) ≡ true
letter_among [] d h = absurd (omega (arith, h.1))
letter_among (x ∷ ds) d h = elim (contains_cases d x ds h) [
  | inl here ↦ rw (eq-eqb (letter_of x) (letter_of d) (ap letter_of here)) refl
  | inr there ↦ or_right (letter_of x == letter_of d) _ (letter_among ds d there)
]

pub among_letters : (ds : List Direction) (d : Direction) → list_any (λ b. b == letter_of d) (map letter_of ds) ≡ true
    → Contains ds d
among_letters [] d e = absurd (false≢true e)
among_letters (x ∷ ds) d e =
    elim (or_cases (letter_of x == letter_of d) (list_any (λ b. b == letter_of d) (map letter_of ds)) e) [
      | inl here ↦ contains_here d x ds (same_letter x d here)
      | inr there ↦ contains_there d x ds (among_letters ds d there)
    ]

-- the pieces as texts

-- after the number of a square's piece stand the letters of its directions
pub letters_at : (pieces : List Piece) (cell : ℕ)
    → drop 1 (piece_at (map piece_text pieces) cell) ≡ map letter_of (directions_at pieces cell)
letters_at [] cell = refl
letters_at (p ∷ pieces) zero = refl
letters_at (p ∷ pieces) (suc cell) = letters_at pieces cell

pub says_contains : (pieces : List Piece) (cell : ℕ) (d : Direction) → says (map piece_text pieces) cell d ≡ true
    → Contains (directions_at pieces cell) d
says_contains pieces cell d e = among_letters (directions_at pieces cell) d (rw (letters_at pieces cell) at e)

pub contains_says : (pieces : List Piece) (cell : ℕ) (d : Direction) → Contains (directions_at pieces cell) d
    → says (map piece_text pieces) cell d ≡ true
contains_says pieces cell d h = rw (letters_at pieces cell) (letter_among (directions_at pieces cell) d h)

-- a square past the last piece has no direction
pub directions_inside : (pieces : List Piece) (cell : ℕ) (d : Direction) → Contains (directions_at pieces cell) d
    → cell < length pieces
directions_inside [] cell d h = absurd (omega (arith, h.1))
directions_inside (p ∷ pieces) zero d h = omega arith
directions_inside (p ∷ pieces) (suc cell) d h = omega (arith, directions_inside pieces cell d h)

-- one piece, read

begins_no_digit : (ds : List Direction) → begins_digit (map letter_of ds) ≡ false
begins_no_digit [] = refl
begins_no_digit (Up ∷ ds) = refl
begins_no_digit (Right ∷ ds) = refl
begins_no_digit (Down ∷ ds) = refl
begins_no_digit (Left ∷ ds) = refl

pub number_in-piece : (w : ℕ) (p : Piece) → p.number ≤ w → number_in w (piece_text p) ≡ Some p.number
number_in-piece w p small = grind (arith, nat_tests, begins_no_digit)

pub letters_piece : (p : Piece) → has_letters (piece_text p) ≡ true
letters_piece p = each p.greater
  where
    each : (ds : List Direction) → list_all (λ b. is_some (direction_of b)) (map letter_of ds) ≡ true
    each [] = refl
    each (Up ∷ ds) = each ds
    each (Right ∷ ds) = each ds
    each (Down ∷ ds) = each ds
    each (Left ∷ ds) = each ds

pub lacks_comma : (p : Piece) → Lacks comma (piece_text p)
lacks_comma p = ((λ e. omega arith), each p.greater)
  where
    each : (ds : List Direction) → Lacks comma (map letter_of ds)
    each [] = tt
    each (d ∷ ds) = (letter_no_comma d, each ds)

-- the piece that is read from bytes: the number with which they begin, and the directions of the letters
abbrev pub read_piece : ℕ → List ℕ → Piece
read_piece w bytes = record {
  number = unwrap_or (number_in w bytes) 0;
  greater = filter_map direction_of (drop 1 bytes);
}

letters_written : (bs : List ℕ) → list_all (λ b. is_some (direction_of b)) bs ≡ true
    → map letter_of (filter_map direction_of bs) ≡ bs
letters_written [] e = refl
letters_written (b ∷ bs) e =
    go (λ h. letters_written bs h) (direction_of b) refl
    (and_parts (is_some (direction_of b)) (list_all (λ x. is_some (direction_of x)) bs) e)
  where
    go : (list_all (λ x. is_some (direction_of x)) bs ≡ true → map letter_of (filter_map direction_of bs) ≡ bs)
        → (o : Option Direction) → direction_of b ≡ o
        → (is_some (direction_of b) ≡ true) × (list_all (λ x. is_some (direction_of x)) bs ≡ true)
        → map letter_of (filter_map direction_of (b ∷ bs)) ≡ b ∷ bs
    go rest None none parts = absurd (false≢true (sym (ap is_some none) ∙ parts.0))
    go rest (Some d) some parts = rw (some, letter_of-direction b d some, rest parts.1) refl

number_written : (w b : ℕ) (bs : List ℕ) → begins_with_number w (b ∷ bs) ≡ true
    → digit_zero + unwrap_or (number_in w (b ∷ bs)) 0 ≡ b
number_written w b bs e = grind (arith, nat_tests)

pub read_piece_written : (w : ℕ) (bytes : List ℕ) → begins_with_number w bytes ≡ true → has_letters bytes ≡ true
    → piece_text (read_piece w bytes) ≡ bytes
read_piece_written w [] number letters = absurd (false≢true number)
read_piece_written w (b ∷ bs) number letters = rw (number_written w b bs number, letters_written bs letters) refl

pub number_small : (w : ℕ) (bytes : List ℕ) → unwrap_or (number_in w bytes) 0 ≤ w
number_small w [] = omega arith
number_small w (b ∷ bs) = grind (arith, nat_tests)

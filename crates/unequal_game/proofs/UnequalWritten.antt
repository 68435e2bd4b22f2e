-- The written form of an Unequal puzzle, letter by letter and piece by piece.
use Rattle.std.proofs.lemmas.Bool.Decides.{nat_tests}
use Rattle.std.proofs.Common.{◌≡◌, ℕ, zero, suc, ◌+◌, ◌<◌, Bool, true, false, List, [], ◌∷◌, ◌++◌, length, take, map, refl, ap, ◌∙◌, append_assoc, append-nil, arith, if◌then◌else◌, slice_index_or}
use Rattle.std.specs.List.{filter, flat_map, range_with_len}
use Rattle.std.proofs.lemmas.Grind.{flat_map-append}
use Rattle.std.proofs.lemmas.List.{take_more, map-append}
use Rattle.std.proofs.lemmas.List.Elements.{filter-append}
use Rattle.unequal_game.specs.declared.unequal.direction.Direction.{Direction}
use Rattle.unequal_game.specs.UnequalText.{letter_of}

one_letter : (p : Direction → Bool) (d : Direction) → map letter_of (filter p (d ∷ [])) ≡ (if p d then (letter_of d ∷ []) else [])
one_letter p d = elim (p d) as (λ t. map letter_of (if t then (d ∷ []) else []) ≡ (if t then (letter_of d ∷ []) else [])) [ true ↦ refl | false ↦ refl ]

-- with one direction more, its letter is written after the others if the test holds of it
pub letters_more : (p : Direction → Bool) (ds : List Direction) (i : ℕ) (d : Direction) (front old new : List ℕ) → i < length ds
    → old ≡ front ++ map letter_of (filter p (take i ds))
    → new ≡ old ++ (if p (slice_index_or ds i d) then (letter_of (slice_index_or ds i d) ∷ []) else [])
    → new ≡ front ++ map letter_of (filter p (take (i + 1) ds))
letters_more p ds i d front old new inside before here =
    let more : map letter_of (filter p (take (i + 1) ds)) ≡ map letter_of (filter p (take i ds)) ++ (if p (slice_index_or ds i d) then (letter_of (slice_index_or ds i d) ∷ []) else []) =
    rw (take_more ds i d inside, filter-append p (take i ds) (slice_index_or ds i d ∷ []), map-append letter_of (filter p (take i ds)) (filter p (slice_index_or ds i d ∷ [])), one_letter p (slice_index_or ds i d)) refl in
    rw (here, before, more) (append_assoc front (map letter_of (filter p (take i ds))) _)

range_more : (a n : ℕ) → range_with_len a (n + 1) ≡ range_with_len a n ++ (a + n) ∷ []
range_more a zero = ap (λ x. x ∷ []) (omega arith)
range_more a (suc n) =
    let next : suc n + 1 ≡ suc (n + 1) = omega arith in
    let last : a + 1 + n ≡ a + suc n = omega arith in
    rw next (ap (λ xs. a ∷ xs) (range_more (a + 1) n ∙ ap (λ x. range_with_len (a + 1) n ++ x ∷ []) last))

-- with one piece more, the text is that of the pieces before it and then its own
pub pieces_more : (f : ℕ → List ℕ) (i : ℕ) (old new : List ℕ) → old ≡ flat_map f (range_with_len 0 i) → new ≡ old ++ f i
    → new ≡ flat_map f (range_with_len 0 (i + 1))
pieces_more f i old new before here = grind (arith, nat_tests, range_more, flat_map-append, append-nil)

-- The written form of an Unequal puzzle describes it.
use Rattle.std.proofs.Common.{◌≡◌, ℕ, zero, suc, ◌+◌, ◌*◌, ◌<◌, ◌≤◌, Bool, true, false, List, [], ◌∷◌, ◌++◌, length}
use Rattle.std.proofs.Common.{map, Option, Some, None, is_some, refl, sym, ap, ◌∙◌, inl, inr, arith, append-nil}
use Rattle.std.proofs.Common.{append_assoc, slice_index, slice_index_or}
use Rattle.std.specs.List.{flat_map, range_with_len, join_with_byte, Contains}
use Rattle.std.specs.Option.{option_map_or}
use Rattle.std.proofs.lemmas.Bool.{false≢true}
use Rattle.std.proofs.lemmas.List.FromFn.{length-map-range_with_len, get_or-map-range_with_len, fill_by_all}
use Rattle.unequal_game.specs.declared.unequal.direction.Direction.{Direction}
use Rattle.unequal_game.specs.Unequal.{UnequalValue, IsUnequal, IsGreater, AreNeighbours, neighbour, is_greater}
use Rattle.unequal_game.specs.UnequalText.{directions, Piece, Says, IsUnequalText, piece_text, directions_at}
use Rattle.unequal_game.specs.UnequalText.{is_greater_towards, piece_of, unequal_text}
use Rattle.unequal_game.specs.Laws.SaidSigns.{all_has}
use Rattle.unequal_game.specs.Laws.Neighbours.{next_towards}
use Rattle.unequal_game.specs.Laws.Signs.{greater_next, greater_decides}
use Rattle.unequal_game.specs.Laws.Letters.{contains_filter, filter_contains, directions_inside}
use Rattle.unequal_game.specs.Laws.GoodPieces.{square_some}
use Rattle.byte_text.specs.Bytes.{comma}

-- the written form describes

map_twice : {A B C : Type 0} (g : B → C) (f : A → B) (xs : List A) → map g (map f xs) ≡ map (λ x. g (f x)) xs
map_twice g f [] = refl
map_twice g f (x ∷ xs) = ap (λ ys. g (f x) ∷ ys) (map_twice g f xs)

commas-join : (f : ℕ → List ℕ) (k : ℕ) (ks : List ℕ)
    → flat_map (λ i. f i ++ comma ∷ []) (k ∷ ks) ≡ join_with_byte comma (map f (k ∷ ks)) ++ comma ∷ []
commas-join f k [] = append-nil (f k ++ comma ∷ [])
commas-join f k (m ∷ ks) =
    append_assoc (f k) (comma ∷ []) (flat_map (λ i. f i ++ comma ∷ []) (m ∷ ks))
    ∙ ap (λ rest. f k ++ comma ∷ rest) (commas-join f m ks)
    ∙ sym (append_assoc (f k) (comma ∷ join_with_byte comma (map f (m ∷ ks))) (comma ∷ []))

commas-range : (f : ℕ → List ℕ) (n : ℕ) → 0 < n
    → flat_map (λ i. f i ++ comma ∷ []) (range_with_len 0 n) ≡ join_with_byte comma (map f (range_with_len 0 n))
    ++ comma ∷ []
commas-range f zero some = absurd (omega arith)
commas-range f (suc n) some = commas-join f 0 (range_with_len (0 + 1) n)

some_from_map_or : (g : ℕ → Bool) (o : Option ℕ) → option_map_or g o false ≡ true → is_some o ≡ true
some_from_map_or g None e = absurd (false≢true e)
some_from_map_or g (Some b) e = refl

-- the pieces in which a puzzle is written
abbrev pub pieces_written : UnequalValue → List Piece
pieces_written v = map (piece_of v) (range_with_len 0 (v.size * v.size))

written_directions : (v : UnequalValue) (cell : ℕ) → cell < v.size * v.size
    → directions_at (pieces_written v) cell ≡ (piece_of v cell).greater
written_directions v cell inside =
    ap (λ ds. slice_index_or ds cell []) (map_twice (λ p. p.greater) (piece_of v) (range_with_len 0 (v.size * v.size)))
    ∙ get_or-map-range_with_len (λ k. (piece_of v k).greater) 0 (v.size * v.size) cell cell [] inside (omega arith)

count_written : (v : UnequalValue) → length (pieces_written v) ≡ v.size * v.size
count_written v = length-map-range_with_len (piece_of v) 0 (v.size * v.size)

-- a letter is written exactly where the square is the greater one

letter_written : (v : UnequalValue) (a b : ℕ) (d : Direction) → a < v.size * v.size → neighbour v.size a d ≡ Some b
    → IsGreater v a b → Contains (directions_at (pieces_written v) a) d
letter_written v a b d inside points h =
    let test : is_greater_towards v a d ≡ true = rw points ((greater_decides v a b).1 h) in
    rw (written_directions v a inside) (contains_filter (is_greater_towards v a) d directions (all_has d) test)

written_letter : (v : UnequalValue) (a : ℕ) (d : Direction) → Contains (directions_at (pieces_written v) a) d
    → (a < v.size * v.size) × (is_greater_towards v a d ≡ true)
written_letter v a d h =
    let inside : a < v.size * v.size = omega (arith, directions_inside (pieces_written v) a d h, count_written v) in
    (inside, filter_contains (is_greater_towards v a) d directions (rw (written_directions v a inside) at h))

written_says : (v : UnequalValue) (a b : ℕ) → IsUnequal v → IsGreater v a b → Says v.size (pieces_written v) a b
written_says v a b valid h = elim (greater_next v a b valid h) [
  | inl up ↦ at (next_towards v.size a b valid.givens.smallest up.0).0
  | inr down ↦ at (next_towards v.size b a valid.givens.smallest down.0).1
]
  where
    at : AreNeighbours v.size a b → Says v.size (pieces_written v) a b
    at there =
        record {
          direction = there.direction;
          letter = letter_written v a b there.direction there.inside there.points h;
          points = there.points;
        }

says_written : (v : UnequalValue) (a b : ℕ) → Says v.size (pieces_written v) a b → IsGreater v a b
says_written v a b h = (greater_decides v a b).0 (rw h.points at (written_letter v a h.direction h.letter).1)

pub unequal_canonical : (v : UnequalValue) → IsUnequal v → IsUnequalText v (unequal_text v)
unequal_canonical v valid =
    let n : ℕ = v.size * v.size in
    let small : 3 ≤ v.size = valid.givens.smallest in
    record {
      puzzle = valid;
      pieces = pieces_written v;
      written = inr (
          commas-range (λ cell. piece_text (piece_of v cell)) n (square_some v.size small)
          ∙ ap (λ ps. join_with_byte comma ps ++ comma ∷ [])
          (sym (map_twice piece_text (piece_of v) (range_with_len 0 n))));
      numbers =
          map_twice (λ p. p.number) (piece_of v) (range_with_len 0 n)
          ∙ sym (fill_by_all (λ cell. slice_index v.givens cell) v.givens n 0 valid.givens.count (λ k inside. refl));
      inside = λ cell d h.
          some_from_map_or (is_greater v cell) (neighbour v.size cell d) (written_letter v cell d h).1;
      signs = λ a b. (written_says v a b valid, says_written v a b);
    }

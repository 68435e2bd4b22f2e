-- The laws of Unequal descriptions: what is read describes the puzzle, and what describes it is read.
use Rattle.std.proofs.Common.{◌≡◌, ◌↔◌, ℕ, ◌*◌, ◌<◌, ◌≤◌, Bool, true, false, ◌&&◌, List, length, map, Some, None}
use Rattle.std.proofs.Common.{unwrap_or, Ok, refl, sym, ap, subst, ◌∙◌, inl, inr, arith, slice_index_or}
use Rattle.std.specs.List.{AllByRecursion}
use Rattle.std.specs.Option.{option_map_or}
use Rattle.std.proofs.lemmas.List.{length-map, ext_get_or}
use Rattle.std.proofs.lemmas.List.Elements.{recursion_from_All}
use Rattle.std.proofs.lemmas.List.FromFn.{length-map-range_with_len}
use Rattle.unequal_game.specs.declared.unequal.direction.Direction.{Direction}
use Rattle.unequal_game.specs.declared.unequal.direction.Direction.TheVariants.{Right, Down}
use Rattle.unequal_game.specs.declared.unequal.sign.Sign.{Sign}
use Rattle.unequal_game.specs.declared.unequal.sign.Sign.TheVariants.{Absent, FirstGreater, SecondGreater}
use Rattle.game_texts.specs.IdFaults.{exactly}
use Rattle.unequal_game.specs.Unequal.{UnequalValue, IsUnequal, IsGreater, neighbour, sign_between, sign_towards, signs_towards}
use Rattle.unequal_game.specs.UnequalText.{Piece, IsUnequalText, piece_text, directions_at, pieces_of, number_in}
use Rattle.unequal_game.specs.UnequalText.{points_inside, says_greater, said_sign, sign_said, contradicts, puzzle_in, unequal_at, puzzle_at, Says}
use Rattle.unequal_game.specs.Laws.RangeTests.{all_in_range, range_all}
use Rattle.unequal_game.specs.Laws.Neighbours.{IsNext, towards, right_of, below_of}
use Rattle.unequal_game.specs.Laws.Signs.{right_between, below_between, greater_first, greater_second, never_both, sign_at, signed_greater}
use Rattle.unequal_game.specs.Laws.Letters.{letters_at, directions_inside, read_piece}
use Rattle.unequal_game.specs.Laws.GoodPieces.{AreGood, good_taken, good_again, read_pieces, map-number, read_valid}
use Rattle.unequal_game.specs.Laws.GoodPieces.{letters_inside, inside_letters, some_pieces, pieces_some, square_some}
use Rattle.unequal_game.specs.Laws.GoodPieces.{good_numbers, good_letters, numbers_again}
use Rattle.game_texts.specs.Laws.Exactly.{exactly_taken, exactly_again}
use Rattle.unequal_game.specs.Laws.SaidSigns.{says_tested, tested_says, never_contradict, contradict_never}
use Rattle.byte_text.proofs.ReadingLaws.{bind_taken}

-- the sign that is said of two squares, by which of them is said to be the greater one

said_first : (s t : Bool) → said_sign s t ≡ FirstGreater → s ≡ true
said_first s t e = grind arith

said_second : (s t : Bool) → said_sign s t ≡ SecondGreater → t ≡ true
said_second s t e = grind arith

second_said : (s t : Bool) → (t && s) ≡ false → t ≡ true → said_sign s t ≡ SecondGreater
second_said s t apart e = grind arith

sign_matches : (s : Sign) (first second : Bool) → (s ≡ FirstGreater → first ≡ true)
    → (s ≡ SecondGreater → second ≡ true)
    → (first ≡ true → s ≡ FirstGreater) → (second ≡ true → s ≡ SecondGreater) → said_sign first second ≡ s
sign_matches s first second a b c d = grind arith

-- the puzzle that pieces describe says which square is the greater exactly where the pieces say so
greater_said : (w : ℕ) (pieces : List Piece) (a b : ℕ) → IsUnequal (puzzle_in w (map piece_text pieces))
    → length pieces ≡ w * w
    → contradicts w (map piece_text pieces) ≡ false
    → IsGreater (puzzle_in w (map piece_text pieces)) a b ↔ Says w pieces a b
greater_said w pieces a b valid count agree =
    let bytes : List (List ℕ) = map piece_text pieces in
    let small : 3 ≤ w = valid.givens.smallest in
    let rule = signed_greater w (sign_said w bytes) (puzzle_in w bytes).givens a b valid.givens in (
      λ h. elim (rule.0 h) [
        | inl up ↦ tested_says w pieces a b (said_first (says_greater w bytes a b) (says_greater w bytes b a) up.1)
        | inr down ↦ tested_says w pieces a b (said_second (says_greater w bytes b a) (says_greater w bytes a b) down.1)
      ],
      λ h.
          let test : says_greater w bytes a b ≡ true = says_tested w pieces a b h in
          let inside : a < w * w = omega (arith, directions_inside pieces a h.direction h.letter) in
          elim (towards w a b h.direction small inside h.points) [
            | inl next ↦ rule.1 (inl (next, rw test refl))
            | inr next ↦
                let apart = contradict_never w bytes a b agree inside next.inside in
                rule.1 (inr (next, second_said (says_greater w bytes b a) (says_greater w bytes a b) apart test))
          ],
    )

-- what is read describes the puzzle

read_text : (w : ℕ) (text : List ℕ) (pieces : List Piece) → 3 ≤ w → w ≤ 9 → length pieces ≡ w * w
    → pieces_of text ≡ map piece_text pieces → AreGood w (map piece_text pieces)
    → map (λ p. p.number) pieces ≡ (puzzle_in w (map piece_text pieces)).givens
    → IsUnequalText (puzzle_in w (map piece_text pieces)) text
read_text w text pieces small large count split good numbers =
    let valid = read_valid w (map piece_text pieces) small large (length-map pieces piece_text ∙ count) in
    record {
      puzzle = valid;
      pieces = pieces;
      written = some_pieces text pieces (omega (arith, square_some w small)) split;
      numbers = numbers;
      inside = λ cell d h.
          let inside : cell < w * w = omega (arith, directions_inside pieces cell d h) in
          let letters =
          all_in_range (points_inside w (map piece_text pieces)) 0 (w * w) cell good.inside (omega arith)
          (omega arith) in
          letters_inside w cell (directions_at pieces cell) d (rw (letters_at pieces cell) at letters) h;
      signs = λ a b. greater_said w pieces a b valid count good.agree;
    }

taken_pieces : (w : ℕ) (text : List ℕ) (bytes : List (List ℕ)) → 3 ≤ w → w ≤ 9 → length bytes ≡ w * w
    → pieces_of text ≡ bytes
    → AreGood w bytes → IsUnequalText (puzzle_in w bytes) text
taken_pieces w text bytes small large count split good =
    let same : map piece_text (map (read_piece w) bytes) ≡ bytes = read_pieces w bytes good.numbers good.letters in
    let P : List (List ℕ) → Type 0 = λ bs. IsUnequalText (puzzle_in w bs) text in
    let Good : List (List ℕ) → Type 0 = λ bs. AreGood w bs in
    subst P same
    (read_text w text (map (read_piece w) bytes) small large (length-map bytes (read_piece w) ∙ count)
    (split ∙ sym same)
    (subst Good (sym same) good)
    (map-number w bytes ∙ ap (map (λ p. unwrap_or (number_in w p) 0)) (sym same)))

pub unequal_taken : (w : ℕ) (text : List ℕ) (v : UnequalValue) → 3 ≤ w → w ≤ 9 → unequal_at w text ≡ Ok v
    → IsUnequalText v text × IsUnequal v × (v.size ≡ w)
unfolding unequal_at
unequal_taken w text v small large h =
    let read = bind_taken (exactly (w * w) (pieces_of text)) (puzzle_at w) v h in
    let count = exactly_taken (w * w) (pieces_of text) read.value read.gives in
    let good = good_taken w read.value v read.rest in
    let described = taken_pieces w text read.value small large (sym (ap length count.0) ∙ count.1) count.0 good.0 in
    subst (λ u. IsUnequalText u text × IsUnequal u × (u.size ≡ w)) good.1 (described, described.puzzle, refl)

-- what pieces that describe a puzzle say of two neighbours is the sign between them
sign_again : (v : UnequalValue) (text : List ℕ) (h : IsUnequalText v text) (a b : ℕ) → IsNext v.size a b
    → sign_said v.size (map piece_text h.pieces) a b ≡ sign_between v a b
sign_again v text h a b next =
    let pieces : List Piece = h.pieces in
    sign_matches (sign_between v a b) (says_greater v.size (map piece_text pieces) a b)
    (says_greater v.size (map piece_text pieces) b a)
    (λ e. says_tested v.size pieces a b ((h.signs a b).0 (inl e)))
    (λ e. says_tested v.size pieces b a ((h.signs b a).0 (inr e)))
    (λ t. greater_first v a b h.puzzle next ((h.signs a b).1 (tested_says v.size pieces a b t)))
    (λ t. greater_second v a b h.puzzle next ((h.signs b a).1 (tested_says v.size pieces b a t)))

-- the lists of signs that are read from a description of a puzzle are the puzzle's
signs_again : (v : UnequalValue) (text : List ℕ) (h : IsUnequalText v text) (d : Direction) (signs : List Sign)
    → length signs ≡ v.size * v.size
    → ((cell : ℕ) → neighbour v.size cell d ≡ None → slice_index_or signs cell Absent ≡ Absent)
    → ((cell b : ℕ) → cell < v.size * v.size → neighbour v.size cell d ≡ Some b
    → IsNext v.size cell b × (sign_between v cell b ≡ slice_index_or signs cell Absent))
    → signs_towards v.size (sign_said v.size (map piece_text h.pieces)) d ≡ signs
signs_again v text h d signs count ends between =
    let w : ℕ = v.size in
    let sign : ℕ → ℕ → Sign = sign_said w (map piece_text h.pieces) in
    let whole = length-map-range_with_len (sign_towards w sign d) 0 (w * w) in
    ext_get_or Absent (signs_towards w sign d) signs (whole ∙ sym count) (λ cell low.
    let inside : cell < w * w = omega (arith, whole) in
    sign_at w sign d cell inside ∙ here cell inside)
  where
    here : (cell : ℕ) → cell < v.size * v.size
        → sign_towards v.size (sign_said v.size (map piece_text h.pieces)) d cell ≡ slice_index_or signs cell Absent
    here cell inside =
        let sign : ℕ → ℕ → Sign = sign_said v.size (map piece_text h.pieces) in
        elim (neighbour v.size cell d) as
        (λ o. neighbour v.size cell d ≡ o → option_map_or (sign cell) o Absent ≡ slice_index_or signs cell Absent) [
          | None ↦ λ e. sym (ends cell e)
          | Some b ↦ λ e. let there = between cell b inside e in sign_again v text h cell b there.0 ∙ there.1
        ] refl

again_pieces : (v : UnequalValue) (text : List ℕ) → (h : IsUnequalText v text)
    → AreGood v.size (map piece_text h.pieces) × (puzzle_in v.size (map piece_text h.pieces) ≡ v)
again_pieces v text h =
    let w : ℕ = v.size in
    let pieces : List Piece = h.pieces in
    let bytes : List (List ℕ) = map piece_text pieces in
    let small : 3 ≤ v.size = h.puzzle.givens.smallest in
    let Within : List ℕ → Type 0 = λ ns. AllByRecursion (λ n. n ≤ v.size) ns in
    let within = subst Within (sym h.numbers) (recursion_from_All (λ n. n ≤ v.size) v.givens h.puzzle.givens.within) in
    let right =
    signs_again v text h Right v.right h.puzzle.right_count h.puzzle.right_ends (λ cell b inside e. (
      record { inside = inside; points = inl e },
      rw (right_of w cell b e).1 (right_between v cell),
    )) in
    let below =
    signs_again v text h Down v.below h.puzzle.below_count h.puzzle.below_ends (λ cell b inside e. (
      record { inside = inside; points = inr e },
      rw (below_of w cell b e).1 (below_between v cell small),
    )) in
    let givens : (puzzle_in w bytes).givens ≡ v.givens = numbers_again w pieces within ∙ h.numbers in (
      record {
        numbers = good_numbers w pieces within;
        letters = good_letters pieces;
        inside =
            range_all (points_inside w bytes) 0 (w * w)
            (λ cell low high. rw (letters_at pieces cell)
            (inside_letters w cell (directions_at pieces cell) (h.inside cell)));
        agree = never_contradict w bytes (λ a b inside first second.
            never_both v a b h.puzzle ((h.signs a b).1 (tested_says w pieces a b first))
            ((h.signs b a).1 (tested_says w pieces b a second)));
      },
      λ j. record { size = w; right = right j; below = below j; givens = givens j },
    )

pub unequal_again : (text : List ℕ) (v : UnequalValue) → IsUnequalText v text → unequal_at v.size text ≡ Ok v
unfolding unequal_at
unequal_again text v h =
    let count : length h.pieces ≡ v.size * v.size =
    sym (length-map h.pieces (λ p. p.number)) ∙ ap length h.numbers ∙ h.puzzle.givens.count in
    let some : 0 < length h.pieces = omega (arith, square_some v.size h.puzzle.givens.smallest) in
    let split : pieces_of text ≡ map piece_text h.pieces = pieces_some text h.pieces some h.written in
    let good = again_pieces v text h in
    rw (split, exactly_again (v.size * v.size) (map piece_text h.pieces) (length-map h.pieces piece_text ∙ count))
    (good_again v.size (map piece_text h.pieces) good.0 ∙ ap (λ u. Ok u) good.1)

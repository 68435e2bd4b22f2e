-- The laws of Towers descriptions: a text that is read describes the puzzle, one that describes it is read,
-- and the one that is written describes it.
use Rattle.std.proofs.lemmas.Bool.Decides.{nat_tests}
use Rattle.std.proofs.Common.{◌≡◌, ℕ, ◌*◌, ◌≤◌, true, false, ◌==◌, ◌||◌, not, List, [], ◌∷◌, ◌++◌, length, replicate}
use Rattle.std.proofs.Common.{Option, Some, None, Result, Ok, inl, inr, refl, sym, ap, ◌∙◌, subst, arith, append-nil}
use Rattle.std.specs.List.{AllByRecursion, list_any}
use Rattle.std.proofs.lemmas.List.{length-replicate}
use Rattle.std.proofs.lemmas.List.Elements.{All-from_recursion, recursion_from_All}
use Rattle.std.proofs.lemmas.Bool.{eqb-true}
use Rattle.byte_text.specs.Cuts.{before, behind}
use Rattle.byte_text.specs.Reading.{◌>>=◌}
use Rattle.byte_text.proofs.CutLaws.{cut_parts, cut_whole, before_at, behind_at, before_all, behind_none_in}
use Rattle.byte_text.proofs.ReadingLaws.{bind_taken, bind_again}
use Rattle.byte_text.specs.Bytes.{comma}
use Rattle.game_texts.specs.declared.id_fault.IdFault.{IdFault}
use Rattle.towers_game.specs.Towers.{TowersValue, IsTowers}
use Rattle.towers_game.specs.TowersText.{clue_part, IsTowersText, square_part, towers_text, clues_at, givens_behind, towers_at, SaysSquares}
use Rattle.towers_game.specs.Laws.CluePart.{clue_part_lacks_comma, clues_taken, clues_again}
use Rattle.towers_game.specs.Laws.SquarePart.{givens_taken, givens_again, squares_within, zeros_within}
use Rattle.towers_game.specs.Laws.SquaresWritten.{squares_written_text}

-- the puzzle that is made of what was read
abbrev made : ℕ → List ℕ → List ℕ → Result TowersValue IdFault
made w clues givens = Ok (record { size = w; clues = clues; givens = givens })

-- no number of the list is greater than the width
abbrev AllUpTo : ℕ → List ℕ → Type 0
AllUpTo w ns = AllByRecursion (λ n. n ≤ w) ns

-- blank squares are at most the width
zeros_up_to : (w n : ℕ) → AllUpTo w (replicate n 0)
zeros_up_to w n = subst (AllUpTo w) (append-nil (replicate n 0)) (zeros_within w n [] tt)

-- givens that are read from a description are in range, and the text says them after its first comma
givens_behind_taken : (w : ℕ) (text givens : List ℕ) (rest : Option (List ℕ)) → w ≤ 9 → behind comma text ≡ rest
    → givens_behind w rest ≡ Ok givens
    → (length givens ≡ w * w) × AllUpTo w givens × SaysSquares w text (before comma text) givens
givens_behind_taken w text givens None small cut read =
    let e : replicate (w * w) 0 ≡ givens = cc in
    let count : length givens ≡ w * w = ap length (sym e) ∙ length-replicate (w * w) 0 in
    (count, subst (AllUpTo w) e (zeros_up_to w (w * w)), inl (sym (cut_whole comma text cut), sym e))
givens_behind_taken w text givens (Some part) small cut read =
    let taken = givens_taken w part givens small read in
    (taken.0, squares_within w part givens taken.1, inr (part, cut_parts comma text part cut, taken.1))

-- a description that is read describes the puzzle that is read, which is one of Towers of that width
pub towers_taken : (w : ℕ) (text : List ℕ) (p : TowersValue) → 3 ≤ w → w ≤ 9 → towers_at w text ≡ Ok p
    → IsTowersText p text × IsTowers p × (p.size ≡ w)
unfolding towers_at
towers_taken w text p small large read =
    let first =
    bind_taken (clues_at w (before comma text))
    (λ clues. givens_behind w (behind comma text) >>= made w clues) p read in
    let second = bind_taken (givens_behind w (behind comma text)) (made w first.value) p first.rest in
    let (front, clue_count, clues_within) = clues_taken w (before comma text) first.value first.gives in
    let (count, within, says) = givens_behind_taken w text second.value (behind comma text) large refl second.gives in
    let value : TowersValue = record { size = w; clues = first.value; givens = second.value } in
    let is : value ≡ p = cc in
    let puzzle : IsTowers value = record {
      givens = record {
        smallest = small;
        largest = large;
        count = count;
        within = All-from_recursion (λ n. n ≤ w) second.value within;
      };
      clue_count = clue_count;
      clues_within = All-from_recursion (λ n. n ≤ w) first.value clues_within;
    } in
    let parts = subst (λ clues. SaysSquares w text clues second.value) front says in
    subst (λ v. IsTowersText v text × IsTowers v × (v.size ≡ w)) is
    (record { puzzle = puzzle; parts = parts }, puzzle, refl)

-- a description that is cut at its comma has its clues before it, and its givens are read behind it
cut_again : (w : ℕ) (text : List ℕ) (clues givens : List ℕ) → w ≤ 9 → length givens ≡ w * w
    → SaysSquares w text (clue_part clues) givens
    → (before comma text ≡ clue_part clues) × (givens_behind w (behind comma text) ≡ Ok givens)
cut_again w text clues givens small count parts =
    grind (arith, nat_tests, clue_part_lacks_comma, behind_none_in, before_all, behind_at, before_at, givens_again)

-- a description of a puzzle is read as that puzzle
pub towers_again : (text : List ℕ) (p : TowersValue) → IsTowersText p text → towers_at p.size text ≡ Ok p
unfolding towers_at
towers_again text p h =
    let read = cut_again p.size text p.clues p.givens h.puzzle.givens.largest h.puzzle.givens.count h.parts in
    let within = recursion_from_All (λ n. n ≤ p.size) p.clues h.puzzle.clues_within in
    let clues : clues_at p.size (before comma text) ≡ Ok p.clues =
    ap (clues_at p.size) read.0
    ∙ clues_again p.size p.clues (omega (arith, h.puzzle.givens.smallest)) h.puzzle.clue_count within in
    bind_again (clues_at p.size (before comma text))
    (λ clues. givens_behind p.size (behind comma text) >>= made p.size clues) p.clues clues
    ∙ bind_again (givens_behind p.size (behind comma text)) (made p.size p.clues) p.givens read.1

-- where no square is given, all are blank
none_given : (givens : List ℕ) → list_any (λ n. not (n == 0)) givens ≡ false → givens ≡ replicate (length givens) 0
none_given [] = λ none. refl
none_given (n ∷ ns) =
    elim (n == 0) as
    (λ t. (n == 0) ≡ t → (not t || list_any (λ m. not (m == 0)) ns) ≡ false
    → n ∷ ns ≡ 0 ∷ replicate (length ns) 0) [
      | true ↦ λ blank none. let e = eqb-true n 0 blank in let es = none_given ns none in cc
      | false ↦ λ given none. cc
    ] refl

-- a text and the written squares of some givens after it say these givens
written_parts : (w : ℕ) (front givens : List ℕ) → length givens ≡ w * w → AllUpTo w givens
    → SaysSquares w (front ++ square_part givens) front givens
written_parts w front givens count within = grind (arith, nat_tests, squares_written_text, append-nil, none_given)

-- the description that is written describes the puzzle
pub towers_canonical : (p : TowersValue) → IsTowers p → IsTowersText p (towers_text p)
towers_canonical p puzzle = grind (arith, nat_tests, written_parts, recursion_from_All)

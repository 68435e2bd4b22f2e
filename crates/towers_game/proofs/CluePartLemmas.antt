-- The facts that are known while the clue part of a Towers description is read field by field.
use Rattle.std.proofs.Common.{◌≡◌, ℕ, ◌+◌, ◌*◌, ◌≤◌, true, ◌==◌, List, [], ◌∷◌, length, map, refl, sym, ap, ◌∙◌, arith, ◌++◌, suc, count_by, take, set, Option, Some, None, append_assoc, append-nil}
use Rattle.std.specs.List.{flat_map, list_all}
use Rattle.std.proofs.lemmas.List.Splits.{length-slice_split}
use Rattle.byte_text.specs.Cuts.{before, behind}
use Rattle.byte_text.proofs.CutLaws.{pieces_more, pieces_last, cut_whole}
use Rattle.byte_text.specs.Bytes.{slash}
use Rattle.towers_game.specs.TowersText.{clue_field, clue_part, fields, is_clue_field, clue_in}
use Rattle.line_steps.specs.Inner.Filled.{IsFilledTo}
use Rattle.line_steps.proofs.FilledLemmas.{filled_one}

-- a clue part has one field more than it has separators
pub field_count_by : (part : List ℕ) → length (fields part) ≡ count_by (λ b. b == slash) part + 1
field_count_by part = length-slice_split (λ b. b == slash) part

-- the fields from a place in the clue part on; after the last separator there is none
abbrev pub fields_left : Option (List ℕ) → List (List ℕ)
fields_left None = []
fields_left (Some part) = fields part

-- the fields of a part are the one before its first separator and those after it
pub fields_step : (part front : List ℕ) (rest : Option (List ℕ)) → front ≡ before slash part → rest ≡ behind slash part
    → fields part ≡ front ∷ fields_left rest
fields_step part front None is ends = pieces_last slash part (sym ends) ∙ ap (λ f. f ∷ []) (sym (cut_whole slash part (sym ends)) ∙ sym is)
fields_step part front (Some more) is cut = pieces_more slash part more (sym cut) ∙ ap (λ f. f ∷ fields more) (sym is)

-- while the clues are filled, this is known of the places so far and of the fields that are left
pub record FillsClues (w : ℕ) (part : List ℕ) (rest : Option (List ℕ)) (place : ℕ) (clues : List ℕ) : Type 0 where
  pub filled : IsFilledTo 0 36 place clues
  pub count : place + length (fields_left rest) ≡ 4 * w
  pub tests : list_all (is_clue_field w) (fields_left rest) ≡ list_all (is_clue_field w) (fields part)
  pub values : map clue_in (fields part) ≡ take place clues ++ map clue_in (fields_left rest)

-- once the clue of the next field is put in, all that is known while clues are filled holds one field further
pub fills_step : (w : ℕ) (part now front : List ℕ) (rest : Option (List ℕ)) (place : ℕ) (clues : List ℕ)
    → FillsClues w part (Some now) place clues → fields now ≡ front ∷ fields_left rest → is_clue_field w front ≡ true → w ≤ 9
    → FillsClues w part rest (place + 1) (set clues place (clue_in front))
fills_step w part now front rest place clues fills step good small =
    let lengths : length (fields now) ≡ suc (length (fields_left rest)) = ap length step in
    let one = filled_one 0 36 place (clue_in front) clues fills.filled (omega (arith, fills.count)) in
    record {
      filled = one.0;
      count = omega (arith, fills.count);
      tests = (let here : list_all (is_clue_field w) (fields now) ≡ list_all (is_clue_field w) (fields_left rest) = rw (step, good) refl in sym here ∙ fills.tests);
      values = fills.values ∙ (ap (λ fs. take place clues ++ map clue_in fs) step
          ∙ (sym (append_assoc (take place clues) (clue_in front ∷ []) (map clue_in (fields_left rest)))
          ∙ ap (λ xs. xs ++ map clue_in (fields_left rest)) (sym one.1)));
    }

-- the text of the clues after the first, each after its separator
abbrev pub slashed : List ℕ → List ℕ
slashed clues = flat_map (λ clue. slash ∷ clue_field clue) clues

-- a clue part is its first clue, and each other one after its separator
pub clue_part_slashed : (first : ℕ) (others : List ℕ) → clue_part (first ∷ others) ≡ clue_field first ++ slashed others
clue_part_slashed first [] = sym (append-nil (clue_field first))
clue_part_slashed first (second ∷ others) = ap (λ xs. clue_field first ++ slash ∷ xs) (clue_part_slashed second others)

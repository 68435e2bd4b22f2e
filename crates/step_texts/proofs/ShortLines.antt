-- Lines that are short.
use Rattle.std.proofs.Common.{◌≡◌, ◌≤◌, ℕ, List, [], ◌∷◌, ◌++◌, length, arith, Bool, true, false, if◌then◌else◌, sym, subst}
use Rattle.std.proofs.lemmas.List.{map-append}
use Rattle.std.proofs.lemmas.List.Elements.{All-push}
use Rattle.arrayvec.specs.ArrayVec.{ArrayVec}
use Rattle.step_texts.specs.Lines.{AreShort, line_items, line_texts}

-- short lines and then one more short line are short
longer : (lines more : List (ArrayVec ℕ)) (line : ArrayVec ℕ) → more ≡ lines ++ line ∷ [] → length line.items ≤ 100 → AreShort (line_texts lines)
    → AreShort (line_texts more)
longer lines more line grown fits short =
    subst (λ (ls : List (ArrayVec ℕ)). AreShort (line_texts ls)) (sym grown)
    (subst AreShort (sym (map-append line_items lines (line ∷ [])))
    (All-push (λ (l : List ℕ). length l ≤ 100) (line_texts lines) line.items short fits))

-- short lines stay short when one more is put at the end, if there is room for it
pub one_more : (more_is : Bool) (lines more : List (ArrayVec ℕ)) (line : ArrayVec ℕ) → more ≡ (if more_is then lines ++ line ∷ [] else lines)
    → length line.items ≤ 100 → AreShort (line_texts lines) → AreShort (line_texts more)
one_more true lines more line grown fits short = longer lines more line grown fits short
one_more false lines more line grown fits short = subst (λ (ls : List (ArrayVec ℕ)). AreShort (line_texts ls)) (sym grown) short

-- where there is a line there is a text of a line
pub some_texts : (lines : List (ArrayVec ℕ)) → 1 ≤ length lines → 1 ≤ length (line_texts lines)
some_texts [] some = absurd (omega (arith, some))
some_texts (line ∷ lines) some = omega arith

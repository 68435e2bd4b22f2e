-- The loss of one item of a list.
use Rattle.std.proofs.Common.{◌≡◌, ℕ, zero, suc, ◌+◌, ◌<◌, ◌≤◌, true, false, not, List, [], ◌∷◌, length, set, refl, arith, take, sym, ◌∙◌, ◌==◌}
use Rattle.std.proofs.lemmas.Bool.{ne_eqb, eq-eqb}
use Rattle.std.proofs.Math.Seq.{take-set-lt}
use Rattle.std.proofs.lemmas.List.{length-take}
use Rattle.trail_solver.specs.Items.{kept_items}

kept-past : {X : Type 0} (empty : X) (i d : ℕ) (xs : List X) → d < i → kept_items empty (λ j. not (j == d)) i xs ≡ xs
kept-past empty i d [] h = refl
kept-past empty i d (x ∷ xs) h =
    let other : (i == d) ≡ false = ne_eqb i d (λ same. omega arith) in
    rw (other, kept-past empty (i + 1) d xs (omega arith)) refl

-- to keep all but one entry is to empty that one
pub kept-but_one : {X : Type 0} (empty : X) (i d k : ℕ) (xs : List X) → i + k ≡ d → kept_items empty (λ j. not (j == d)) i xs ≡ set xs k empty
kept-but_one empty i d k [] e = refl
kept-but_one empty i d zero (x ∷ xs) e =
    let here : (i == d) ≡ true = eq-eqb i d (omega arith) in
    rw (here, kept-past empty (i + 1) d xs (omega arith)) refl
kept-but_one empty i d (suc k) (x ∷ xs) e =
    let other : (i == d) ≡ false = ne_eqb i d (λ same. omega arith) in
    rw (other, kept-but_one empty (i + 1) d k xs (omega arith)) refl

-- where the one entry lies after a list, all of it is kept
pub kept-before : {X : Type 0} (empty : X) (i d : ℕ) (xs : List X) → i + length xs ≤ d → kept_items empty (λ j. not (j == d)) i xs ≡ xs
kept-before empty i d [] h = refl
kept-before empty i d (x ∷ xs) h =
    let other : (i == d) ≡ false = ne_eqb i d (λ same. omega arith) in
    rw (other, kept-before empty (i + 1) d xs (omega arith)) refl

-- to keep all but one of a puzzle's items is to empty one place of the first list, or one given
pub item_emptied : {X : Type 0} (empty : X) (n : ℕ) (xs : List X) (givens : List ℕ) (i : ℕ) → i < n
    → (kept_items empty (λ j. not (j == i)) 0 (take n xs) ≡ take n (set xs i empty))
    × (kept_items zero (λ j. not (j == i)) n givens ≡ givens)
item_emptied empty n xs givens i inside =
    (kept-but_one empty 0 i i (take n xs) (omega arith) ∙ sym (take-set-lt n xs i empty inside), kept-past zero n i givens inside)

pub given_emptied : {X : Type 0} (empty : X) (n : ℕ) (xs : List X) (givens : List ℕ) (i k : ℕ) → n + k ≡ i
    → (kept_items empty (λ j. not (j == i)) 0 (take n xs) ≡ take n xs) × (kept_items zero (λ j. not (j == i)) n givens ≡ set givens k zero)
given_emptied empty n xs givens i k e =
    (kept-before empty 0 i (take n xs) (omega (arith, length-take n xs)), kept-but_one zero n i k givens e)

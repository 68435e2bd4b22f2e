-- Where a text is cut: its parts, a cut at a known separator, and the pieces between separators.
use Rattle.std.proofs.Common.{◌≡◌, ◌≢◌, ◌∙◌, ℕ, ◌+◌, ◌-◌, ◌<◌, ◌≤◌, List, [], ◌∷◌, ◌++◌, length, take, drop, Some, None, ◌==◌, nat_lt, refl, sym, ap, subst, arith, length-append, take_all}
use Rattle.std.proofs.Math.Seq.{drop-append-add}
use Rattle.std.specs.List.{AllByRecursion, join_with_byte, slice_split, position, position_or_len, after_first}
use Rattle.std.proofs.lemmas.Bool.{cond_both, eqb-true, eqb-false, eq-eqb, ne_eqb, ltb-true, ltb-false, lt-ltb, le-ltb}
use Rattle.std.proofs.lemmas.Bool.Decides.{nat_tests}
use Rattle.std.proofs.lemmas.Grind.{common_steps}
use Rattle.std.proofs.lemmas.List.{take_at}
use Rattle.std.proofs.lemmas.List.Elements.{recursion_from_All}
use Rattle.std.proofs.lemmas.List.Sums.{split_at_first, fails_before_first, passes_at_first}
use Rattle.std.proofs.lemmas.List.Splits.{slice_split_none, slice_split_first}
use Rattle.std.proofs.lemmas.Option.{cond_some}
use Rattle.byte_text.specs.Cuts.{Lacks, before, behind}

-- the place of the first separator, or the length
abbrev place : ℕ → List ℕ → ℕ
place c bs = position_or_len (λ b. b == c) bs

-- where something stands after the separator, it stands in the text
found : (c : ℕ) (bs rest : List ℕ) → behind c bs ≡ Some rest → (place c bs < length bs) × (after_first (λ b. b == c) bs ≡ rest)
found c bs rest cut = grind (arith, nat_tests, cond_some, nat_lt, ltb-true)

missing : (c : ℕ) (bs : List ℕ) → behind c bs ≡ None → length bs ≤ place c bs
missing c bs =
    cond_both (nat_lt (place c bs) (length bs)) (Some (after_first (λ b. b == c) bs)) None (λ rest. rest ≡ None → length bs ≤ place c bs)
    (λ is none. cc) (λ is none. ltb-false (place c bs) (length bs) is)

-- no separator is left before the cut
pub lacks_before : (c : ℕ) (bs : List ℕ) → Lacks c (before c bs)
lacks_before c bs = grind (arith, nat_tests, recursion_from_All, fails_before_first, common_steps, eqb-false)

-- a text that is cut is what comes before the separator, the separator, and what comes behind it
pub cut_parts : (c : ℕ) (bs rest : List ℕ) → behind c bs ≡ Some rest → bs ≡ before c bs ++ c ∷ rest
cut_parts c bs rest cut =
    let f = found c bs rest cut in
    split_at_first (λ b. b == c) bs 0 f.0 ∙ rw (eqb-true _ c (passes_at_first (λ b. b == c) bs 0 f.0), f.1) refl

-- without a separator all stands before the cut
pub cut_whole : (c : ℕ) (bs : List ℕ) → behind c bs ≡ None → before c bs ≡ bs
cut_whole c bs none = take_all (place c bs) bs (missing c bs none)

-- the place of a separator after bytes that are none, and where there is none
place_at : (c : ℕ) (xs ys : List ℕ) → Lacks c xs → place c (xs ++ c ∷ ys) ≡ length xs
place_at c [] ys lacks = rw (eq-eqb c c refl) refl
place_at c (x ∷ xs) ys lacks = rw (ne_eqb x c lacks.0) (omega (arith, place_at c xs ys lacks.1))

place_none : (c : ℕ) (xs : List ℕ) → Lacks c xs → place c xs ≡ length xs
place_none c [] lacks = refl
place_none c (x ∷ xs) lacks = rw (ne_eqb x c lacks.0) (omega (arith, place_none c xs lacks.1))

-- what comes before the first separator, where the text is cut there
pub before_at : (c : ℕ) (xs ys : List ℕ) → Lacks c xs → before c (xs ++ c ∷ ys) ≡ xs
before_at c xs ys lacks = take_at xs (c ∷ ys) (place c (xs ++ c ∷ ys)) (sym (place_at c xs ys lacks))

-- what comes after the first separator, where the text is cut there
pub behind_at : (c : ℕ) (xs ys : List ℕ) → Lacks c xs → behind c (xs ++ c ∷ ys) ≡ Some ys
behind_at c xs ys lacks =
    let all = xs ++ c ∷ ys in
    let at = place_at c xs ys lacks in
    rw (lt-ltb (place c all) (length all) (omega (arith, at, length-append xs (c ∷ ys))), at) (ap Some (drop-append-add xs (c ∷ ys) 1))

-- a text without the separator comes before it whole
pub before_all : (c : ℕ) (xs : List ℕ) → Lacks c xs → before c xs ≡ xs
before_all c xs lacks = take_all (place c xs) xs (omega (arith, place_none c xs lacks))

-- a text without the separator has nothing behind it
pub behind_none_in : (c : ℕ) (xs : List ℕ) → Lacks c xs → behind c xs ≡ None
behind_none_in c xs lacks = rw (le-ltb (place c xs) (length xs) (omega (arith, place_none c xs lacks))) refl

-- the pieces between separators: the first ends at the first separator
pub pieces_more : (c : ℕ) (bs rest : List ℕ) → behind c bs ≡ Some rest
    → slice_split (λ b. b == c) bs ≡ before c bs ∷ slice_split (λ b. b == c) rest
pieces_more c bs rest cut = grind (arith, nat_tests, found, slice_split_first)

-- a text without the separator is one piece
pub pieces_last : (c : ℕ) (bs : List ℕ) → behind c bs ≡ None → slice_split (λ b. b == c) bs ≡ bs ∷ []
pieces_last c bs none =
    slice_split_none (λ b. b == c) bs (λ k d inside. fails_before_first (λ b. b == c) bs k d (omega (arith, missing c bs none)))

pub lacks_append : (c : ℕ) (xs ys : List ℕ) → Lacks c xs → Lacks c ys → Lacks c (xs ++ ys)
lacks_append c [] ys left right = right
lacks_append c (x ∷ xs) ys left right = (left.0, lacks_append c xs ys left.1 right)

pub lacks_join : (c d : ℕ) (pieces : List (List ℕ)) → d ≢ c → AllByRecursion (Lacks c) pieces → Lacks c (join_with_byte d pieces)
lacks_join c d [] other lacks = grind (arith, nat_tests)
lacks_join c d (x ∷ []) other lacks = grind (arith, nat_tests)
lacks_join c d (x ∷ y ∷ xs) other lacks = grind (arith, nat_tests, lacks_append, (lacks_join c d (y ∷ xs) other lacks.1))

-- pieces that are joined by the separator, and have none in them, are the pieces of the whole
pub pieces_join : (c : ℕ) (pieces : List (List ℕ)) → 0 < length pieces → AllByRecursion (Lacks c) pieces
    → slice_split (λ b. b == c) (join_with_byte c pieces) ≡ pieces
pieces_join c [] some lacks = grind (arith, nat_tests)
pieces_join c (x ∷ []) some lacks = grind (arith, nat_tests, pieces_last, behind_none_in)
pieces_join c (x ∷ y ∷ xs) some lacks = grind (arith, nat_tests, pieces_more, behind_at, before_at, (pieces_join c (y ∷ xs) (omega arith) lacks.1))

-- no separator stands before the place that `position` answers
pub found_first : (c : ℕ) (bs : List ℕ) (i : ℕ) → Some i ≡ position (λ b. b == c) bs → Lacks c (take i bs)
found_first c bs i at = grind (arith, nat_tests, lacks_before)

-- at the place that `position` answers the text is cut in two
pub found_parts : (c : ℕ) (bs : List ℕ) (i : ℕ) → Some i ≡ position (λ b. b == c) bs
    → bs ≡ take i bs ++ c ∷ take (length bs - (i + 1)) (drop (i + 1) bs)
found_parts c bs i at =
    let same : place c bs ≡ i = grind (arith, nat_tests) in
    let inside : place c bs < length bs = grind (arith, nat_tests) in
    let whole : take (length bs - (i + 1)) (drop (i + 1) bs) ≡ drop (i + 1) bs = grind (arith, common_steps) in
    let cut : behind c bs ≡ Some (after_first (λ b. b == c) bs) = rw (lt-ltb (place c bs) (length bs) inside) refl in
    rw whole (subst (λ n. bs ≡ take n bs ++ c ∷ drop (n + 1) bs) same (cut_parts c bs _ cut))

-- where `position` finds no place, the text has no separator
pub missing_first : (c : ℕ) (bs : List ℕ) → None ≡ position (λ b. b == c) bs → Lacks c bs
missing_first c bs none =
    let past : length bs ≤ place c bs = grind (arith, nat_tests) in
    subst (Lacks c) (take_all (place c bs) bs past) (lacks_before c bs)

-- what `cut` promises
pub ruleset cuts = (found_first, found_parts, missing_first)

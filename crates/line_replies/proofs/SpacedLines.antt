-- Symbols with a byte between each two, and one symbol more.
use Rattle.std.proofs.Common.{◌≡◌, ℕ, zero, suc, ◌+◌, ◌<◌, List, [], ◌∷◌, ◌++◌, map, take, length, get_or, refl, ap, sym, ◌∙◌, arith, ◌≤◌, append_assoc, append-nil, add-one, take-suc}
use Rattle.std.specs.List.{join_with_byte}
use Rattle.std.proofs.lemmas.List.{map-append}

join_more : (c : ℕ) (x : List ℕ) (xs : List (List ℕ)) (y : List ℕ)
    → join_with_byte c ((x ∷ xs) ++ y ∷ []) ≡ join_with_byte c (x ∷ xs) ++ (c ∷ y)
join_more c x [] y = refl
join_more c x (z ∷ zs) y = ap (λ bs. x ++ (c ∷ bs)) (join_more c z zs y) ∙ sym (append_assoc x (c ∷ join_with_byte c (z ∷ zs)) (c ∷ y))

-- after the first i symbols the next one: alone, or after the byte
pub joined_first : (c : ℕ) (symbols : List ℕ) (i : ℕ) (before now next : List ℕ) → i < length symbols → i ≤ 0
    → now ≡ before ++ join_with_byte c (map (λ symbol. symbol ∷ []) (take i symbols))
    → next ≡ now ++ get_or symbols i 0 ∷ []
    → next ≡ before ++ join_with_byte c (map (λ symbol. symbol ∷ []) (take (i + 1) symbols))
joined_first c [] i before now next h p old e = absurd (omega arith)
joined_first c (x ∷ xs) zero before now next h p old e = e ∙ rw (old, append-nil)
joined_first c (x ∷ xs) (suc i) before now next h p old e = absurd (omega arith)

pub joined_more : (c : ℕ) (symbols : List ℕ) (i : ℕ) (before now next : List ℕ) → i < length symbols → 0 < i
    → now ≡ before ++ join_with_byte c (map (λ symbol. symbol ∷ []) (take i symbols))
    → next ≡ (now ++ c ∷ []) ++ get_or symbols i 0 ∷ []
    → next ≡ before ++ join_with_byte c (map (λ symbol. symbol ∷ []) (take (i + 1) symbols))
joined_more c [] i before now next h p old e = absurd (omega arith)
joined_more c (x ∷ xs) zero before now next h p old e = absurd (omega arith)
joined_more c (x ∷ xs) (suc i) before now next h p old e =
    let front : List (List ℕ) = map (λ symbol. symbol ∷ []) (take i xs) in
    let more : map (λ symbol. symbol ∷ []) (take (suc i + 1) (x ∷ xs)) ≡ ((x ∷ []) ∷ front) ++ (get_or xs i 0 ∷ []) ∷ []
    = let below : i < length xs = omega arith in
    rw (add-one, take-suc xs i 0 below) (ap (λ ps. (x ∷ []) ∷ ps) (map-append (λ symbol. symbol ∷ []) (take i xs) (get_or xs i 0 ∷ []))) in
    e ∙ rw (old, more, join_more c (x ∷ []) front (get_or xs i 0 ∷ []))
    (append_assoc (before ++ join_with_byte c ((x ∷ []) ∷ front)) (c ∷ []) (get_or xs i 0 ∷ [])
    ∙ append_assoc before (join_with_byte c ((x ∷ []) ∷ front)) (c ∷ get_or xs i 0 ∷ []))

-- The towers seen along a line that is put together from parts.
use Rattle.std.proofs.Common.{◌≡◌, ℕ, ◌+◌, ◌<◌, ◌≤◌, Bool, true, false, ltb, leb, cond, List, [], ◌∷◌, ◌++◌, length, refl, ◌∙◌, arith, append_assoc}
use Rattle.std.specs.List.{list_all}
use Rattle.std.proofs.lemmas.List.{append-nil}
use Rattle.std.proofs.lemmas.List.Folds.{list_all-append}
use Rattle.std.proofs.lemmas.Bool.{le-leb, lt-leb}
use Rattle.std.proofs.lemmas.Bool.Decides.{nat_tests}
use Rattle.tower_lines.specs.TowersSeen.{seen_after, seen}

pub seen_after-append : (b p s : List ℕ) → seen_after b (p ++ s) ≡ seen_after b p + seen_after (b ++ p) s
seen_after-append b [] s = rw append-nil (omega arith)
seen_after-append b (x ∷ p) s =
    let e = seen_after-append (b ++ x ∷ []) p s in
    let f : (b ++ x ∷ []) ++ p ≡ b ++ x ∷ p = append_assoc b (x ∷ []) p in
    let g = rw f at e in
    omega (arith, g)

-- of a list in two parts, what is seen of the first, and after it of the second
pub seen-append : (p s : List ℕ) → seen (p ++ s) ≡ seen p + seen_after p s
seen-append p s = seen_after-append [] p s

step_most : (b : Bool) (n m : ℕ) → n ≤ m → cond b 1 0 + n ≤ m + 1
step_most true n m h = omega arith
step_most false n m h = omega arith

-- no more towers are seen than there are
pub seen_most : (b p : List ℕ) → seen_after b p ≤ length p
seen_most b [] = omega arith
seen_most b (x ∷ p) = omega (arith, step_most (list_all (λ y. ltb y x) b) _ (length p) (seen_most (b ++ x ∷ []) p))

-- the first tower of a line is seen
pub seen_some : (p : List ℕ) → 0 < length p → 0 < seen p
seen_some [] h = absurd (omega arith)
seen_some (x ∷ p) h = omega arith

-- a value at the end of a list is a tower more if it is greater than all before it
pub seen-push : (p : List ℕ) (x : ℕ) → seen (p ++ x ∷ []) ≡ seen p + cond (list_all (λ y. ltb y x) p) 1 0
seen-push p x = seen-append p (x ∷ []) ∙ omega arith

-- `least` is the least height that is seen after the list: a height is greater than all of it from there on
pub record IsLeastSeen (p : List ℕ) (least : ℕ) : Type 0 where
  pub taller : (x : ℕ) → list_all (λ y. ltb y x) p ≡ leb least x

-- after a height that is seen, the heights above it are seen
pub least_seen_more : (p : List ℕ) (least height : ℕ) → IsLeastSeen p least → least ≤ height → IsLeastSeen (p ++ height ∷ []) (height + 1)
least_seen_more p least height h l = grind (arith, nat_tests, list_all-append)

-- after a height that is hidden, the same heights are seen as before it
pub least_seen_same : (p : List ℕ) (least height : ℕ) → IsLeastSeen p least → height < least → IsLeastSeen (p ++ height ∷ []) least
least_seen_same p least height h l = grind (arith, nat_tests, list_all-append)

-- a height that is seen is one tower more
pub seen-more_seen : (p : List ℕ) (least height : ℕ) → IsLeastSeen p least → least ≤ height → seen (p ++ height ∷ []) ≡ seen p + 1
seen-more_seen p least height h l = seen-push p height ∙ rw (h.taller height) (rw (le-leb least height l) refl)

-- a height that is hidden is no tower more
pub seen-more_hidden : (p : List ℕ) (least height : ℕ) → IsLeastSeen p least → height < least → seen (p ++ height ∷ []) ≡ seen p
seen-more_hidden p least height h l = seen-push p height ∙ rw (h.taller height) (rw (lt-leb least height l) (omega arith))

-- Lists of solutions as more of them join.
use Rattle.std.proofs.lemmas.Bool.Decides.{nat_tests}
use Rattle.std.proofs.Common.{◌≡◌, ℕ, ◌+◌, ◌-◌, ◌<◌, ◌⊎◌, List, [], ◌∷◌, ◌++◌, length, get_or, AllPairs, Contains, refl, sym, ap, ◌∙◌, subst, inl, inr, ⊎_elim, length-append, append_assoc, append-nil, arith}
use Rattle.std.proofs.lemmas.Bool.{cases_lt}
use Rattle.std.proofs.lemmas.List.{get_or_append_left, get_or-append_right}
use Rattle.std.proofs.lemmas.List.Elements.{All-append, All-weaker, All-contains, Contains-get_or, Contains-append_left, Contains-append_right}
use Rattle.latin_board.specs.Squares.{GridValue}
use Rattle.trail_solver.specs.Listings.{IsBelow, AreFirst}
use Rattle.trail_solver.specs.Inner.Listed.{Lists}

-- what holds of all pairs in each of two lists, and of all across them, holds of all pairs of both end to end
all_pairs_append : {X : Type 0} (R : X → X → Type 0) (xs ys : List X) → AllPairs R xs → AllPairs R ys
    → ((x y : X) → Contains xs x → Contains ys y → R x y) → AllPairs R (xs ++ ys)
all_pairs_append {X} R xs ys h k cross i j d less inside =
    let n : length (xs ++ ys) ≡ length xs + length ys = length-append xs ys in
    ⊎_elim
    (λ front.
    let first : i < length xs = omega arith in
    let a = get_or_append_left xs ys d i first in
    let b = get_or_append_left xs ys d j front in
    rw (a, b) (h i j d less front))
    (λ back.
    let b = get_or-append_right xs ys (length xs) j d refl back in
    let last : j - length xs < length ys = omega arith in
    ⊎_elim
    (λ first.
    let a = get_or_append_left xs ys d i first in
    rw (a, b) (cross (get_or xs i d) (get_or ys (j - length xs) d) (Contains-get_or xs i d first) (Contains-get_or ys (j - length xs) d last)))
    (λ second.
    let a = get_or-append_right xs ys (length xs) i d refl second in
    let less' : i - length xs < j - length xs = omega arith in
    rw (a, b) (k (i - length xs) (j - length xs) d less' last))
    (cases_lt i (length xs)))
    (cases_lt j (length xs))

-- ---- the first of the solutions

-- where there is no solution, the empty list has the first
pub AreFirst-none : (A : GridValue → Type 0) (limit : ℕ) → ((g : GridValue) → A g → ⊥) → AreFirst A limit []
AreFirst-none A limit n = grind (arith, nat_tests)

-- where the limit is 0, the empty list has the first
pub AreFirst-full : (A : GridValue → Type 0) (limit : ℕ) → limit ≡ 0 → AreFirst A limit []
AreFirst-full A limit e = grind (arith, nat_tests)

-- where there is just one solution, and room for it, the list of this one has the first
pub AreFirst-only : (A : GridValue → Type 0) (limit : ℕ) (g : GridValue) → A g → ((h : GridValue) → A h → h ≡ g) → 0 < limit
    → AreFirst A limit (g ∷ [])
AreFirst-only A limit g a only room = grind (arith, nat_tests)

-- the first of some solutions are the first of the same solutions under another name
pub AreFirst-same : (A B : GridValue → Type 0) (limit : ℕ) (xs : List GridValue) → ((g : GridValue) → A g → B g)
    → ((g : GridValue) → B g → A g) → AreFirst A limit xs → AreFirst B limit xs
AreFirst-same A B limit xs to from f = grind (arith, nat_tests)

-- the first of A and then of B, of which all are greater, are the first of C, which is both. One of A is
-- listed, or A's fill the list and are below it; one of B is listed, or both fill the list and are below it
pub AreFirst-then : (A B C : GridValue → Type 0) (limit : ℕ) (xs ys : List GridValue) → ((g : GridValue) → A g → C g)
    → ((g : GridValue) → B g → C g) → ((g : GridValue) → C g → A g ⊎ B g) → ((f g : GridValue) → A f → B g → IsBelow f g)
    → AreFirst A limit xs → AreFirst B (limit - length xs) ys → AreFirst C limit (xs ++ ys)
AreFirst-then A B C limit xs ys ac bc split below f h =
    let n : length (xs ++ ys) ≡ length xs + length ys = length-append xs ys in
    let few = f.few in
    let few' = h.few in
    record {
      few = omega arith;
      solutions = All-append C xs ys (All-weaker A C ac xs f.solutions) (All-weaker B C bc ys h.solutions);
      rising = all_pairs_append IsBelow xs ys f.rising h.rising (λ x y x_in y_in. below x y (All-contains A xs x f.solutions x_in) (All-contains B ys y h.solutions y_in));
      others = λ g c. ⊎_elim
          (λ a. ⊎_elim
          (λ there. inl (Contains-append_left xs ys g there))
          (λ full. inr (
            let e = full.0 in omega arith,
            All-append (λ k. IsBelow k g) xs ys full.1 (λ i d inside. absurd (let e = full.0 in omega arith)),
          ))
          (f.others g a))
          (λ b. ⊎_elim
          (λ there. inl (Contains-append_right xs ys g there))
          (λ full. inr (
            let e = full.0 in omega arith,
            All-append (λ k. IsBelow k g) xs ys (All-weaker A (λ k. IsBelow k g) (λ k a. below k g a b) xs f.solutions) full.1,
          ))
          (h.others g b))
          (split g c);
    }

-- ---- lists that go on

-- a list stays as it is where the empty list has the first of what is to come
pub lists_nothing : (A : GridValue → Type 0) (limit : ℕ) (xs : List GridValue) → AreFirst A (limit - length xs) [] → Lists A limit xs xs
lists_nothing A limit xs f = record { more = []; whole = sym (append-nil xs); first = f }

-- what is listed of one kind of grids is listed of the same kind under another name
pub lists_same : (A B : GridValue → Type 0) (limit : ℕ) (xs ys : List GridValue) → ((g : GridValue) → A g → B g)
    → ((g : GridValue) → B g → A g) → Lists A limit xs ys → Lists B limit xs ys
lists_same A B limit xs ys to from f = record { more = f.more; whole = f.whole; first = AreFirst-same A B (limit - length xs) f.more to from f.first }

-- what is listed of A, and then of B, of which all are greater, is listed of C, which is both
pub lists_then : (A B C : GridValue → Type 0) (limit : ℕ) (xs ys zs : List GridValue) → ((g : GridValue) → A g → C g)
    → ((g : GridValue) → B g → C g) → ((g : GridValue) → C g → A g ⊎ B g) → ((f g : GridValue) → A f → B g → IsBelow f g)
    → Lists A limit xs ys → Lists B limit ys zs → Lists C limit xs zs
lists_then A B C limit xs ys zs ac bc split below f h =
    let n : length (xs ++ f.more) ≡ length xs + length f.more = length-append xs f.more in
    let m : length ys ≡ length xs + length f.more = ap length f.whole ∙ n in
    let e : limit - length ys ≡ limit - length xs - length f.more = omega arith in
    let P : ℕ → Type 0 = λ k. AreFirst B k h.more in
    record {
      more = f.more ++ h.more;
      whole = h.whole ∙ ap (λ (ws : List GridValue). ws ++ h.more) f.whole ∙ append_assoc xs f.more h.more;
      first = AreFirst-then A B C (limit - length xs) f.more h.more ac bc split below f.first (subst P e h.first);
    }

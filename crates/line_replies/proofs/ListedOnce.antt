-- Two lists of the first solutions of a puzzle are equal.
use Rattle.std.proofs.Common.{◌≡◌, ℕ, zero, suc, ◌-◌, ◌<◌, ◌⊎◌, inl, inr, List, [], ◌∷◌, All, AllPairs, Contains, slice_index, refl, sym, ap, ◌∙◌, subst, arith}
use Rattle.std.proofs.lemmas.Bool.{cases_order}
use Rattle.std.proofs.lemmas.List.Elements.{All-head, All-tail}
use Rattle.latin_board.specs.Squares.{GridValue}
use Rattle.trail_solver.specs.Listings.{IsBelow, AreFirst}

-- ---- one grid below another

-- no grid is both below and above another
below_not_above : (f g : GridValue) → IsBelow f g → IsBelow g f → ⊥
below_not_above f g a b =
    elim (cases_order a.place b.place) [
      | inl is ↦
          let less : slice_index g.numbers a.place < slice_index f.numbers a.place =
          subst (λ k. slice_index g.numbers k < slice_index f.numbers k) (sym is) b.less in
          let here = a.less in omega (arith, less)
      | inr order ↦ elim order [
        | inl before ↦ let same = b.same a.place before in let less = a.less in omega (arith, same)
        | inr behind ↦ let same = a.same b.place behind in let less = b.less in omega (arith, same)
      ]
    ]

-- no grid is below itself
below_itself : (f : GridValue) → IsBelow f f → ⊥
below_itself f a = below_not_above f f a a

-- ---- the first of a list, and the others

-- a grid of a list is its first one or among the others
first_or_rest : (x g : GridValue) (xs : List GridValue) → Contains (x ∷ xs) g → (x ≡ g) ⊎ Contains xs g
first_or_rest x g xs (zero, inside, is) = inl is
first_or_rest x g xs (suc k, inside, is) = inr (k, omega arith, is)

-- the first of rising grids is below each other one
below_rest : (x : GridValue) (xs : List GridValue) → AllPairs IsBelow (x ∷ xs) → All (IsBelow x) xs
below_rest x xs h = λ k d inside. h 0 (suc k) d (omega arith) (omega arith)

rising_rest : (x : GridValue) (xs : List GridValue) → AllPairs IsBelow (x ∷ xs) → AllPairs IsBelow xs
rising_rest x xs h = λ i j d less inside. h (suc i) (suc j) d (omega arith) (omega arith)

contained : (P : GridValue → Type 0) (xs : List GridValue) (g : GridValue) → All P xs → Contains xs g → P g
contained P xs g all (k, inside, is) = subst P is (all k g inside)

-- without its first grid, a list of first solutions has the first ones of those that are greater
first_rest : (A : GridValue → Type 0) (limit : ℕ) (x : GridValue) (xs : List GridValue) → AreFirst A limit (x ∷ xs)
    → AreFirst (λ g. A g × IsBelow x g) (limit - 1) xs
first_rest A limit x xs f = record {
  few = let few = f.few in omega arith;
  solutions = λ k d inside. (All-tail A x xs f.solutions k d inside, below_rest x xs f.rising k d inside);
  rising = rising_rest x xs f.rising;
  others = λ g h. elim (f.others g h.0) [
    | inl listed ↦ elim (first_or_rest x g xs listed) [
      | inl is ↦ absurd (below_itself x (subst (λ (y : GridValue). IsBelow x y) (sym is) h.1))
      | inr rest ↦ inl rest
    ]
    | inr full ↦ inr (let long = full.0 in omega arith, All-tail (λ y. IsBelow y g) x xs full.1)
  ];
}

-- each solution is the first of the list, or is greater
least : (A : GridValue → Type 0) (limit : ℕ) (x : GridValue) (xs : List GridValue) (g : GridValue) → AreFirst A limit (x ∷ xs) → A g
    → (x ≡ g) ⊎ IsBelow x g
least A limit x xs g f a =
    elim (f.others g a) [
      | inl listed ↦ elim (first_or_rest x g xs listed) [
        | inl is ↦ inl is
        | inr rest ↦ inr (contained (IsBelow x) xs g (below_rest x xs f.rising) rest)
      ]
      | inr full ↦ inr (All-head (λ y. IsBelow y g) x xs full.1)
    ]

-- lists of the first solutions begin with the same grid
same_first : (A : GridValue → Type 0) (limit : ℕ) (x y : GridValue) (xs ys : List GridValue) → AreFirst A limit (x ∷ xs)
    → AreFirst A limit (y ∷ ys) → x ≡ y
same_first A limit x y xs ys f g =
    elim (least A limit x xs y f (All-head A y ys g.solutions)) [
      | inl is ↦ is
      | inr below ↦ elim (least A limit y ys x g (All-head A x xs f.solutions)) [
        | inl is ↦ sym is
        | inr above ↦ absurd (below_not_above x y below above)
      ]
    ]

none_or_full : (A : GridValue → Type 0) (limit : ℕ) (y : GridValue) (ys : List GridValue) → AreFirst A limit []
    → AreFirst A limit (y ∷ ys) → ⊥
none_or_full A limit y ys f g =
    elim (f.others y (All-head A y ys g.solutions)) [
      | inl listed ↦ let inside = listed.1 in omega arith
      | inr full ↦ let few = g.few in let long = full.0 in omega arith
    ]

-- lists of the first solutions, of as many at most, are the same
pub first_once : (A : GridValue → Type 0) (limit : ℕ) (xs ys : List GridValue) → AreFirst A limit xs → AreFirst A limit ys → xs ≡ ys
first_once A limit [] [] f g = refl
first_once A limit [] (y ∷ ys) f g = absurd (none_or_full A limit y ys f g)
first_once A limit (x ∷ xs) [] f g = absurd (none_or_full A limit x xs g f)
first_once A limit (x ∷ xs) (y ∷ ys) f g =
    let is : x ≡ y = same_first A limit x y xs ys f g in
    let rest : AreFirst (λ h. A h × IsBelow x h) (limit - 1) ys =
    subst (λ (z : GridValue). AreFirst (λ h. A h × IsBelow z h) (limit - 1) ys) (sym is) (first_rest A limit y ys g) in
    let same : xs ≡ ys = first_once (λ h. A h × IsBelow x h) (limit - 1) xs ys (first_rest A limit x xs f) rest in
    ap (λ z. z ∷ xs) is ∙ ap (λ l. y ∷ l) same

-- The consequences of trying items in turn.
use Rattle.std.proofs.lemmas.Bool.Decides.{nat_tests}
use Rattle.std.proofs.Common.{◌≡◌, ℕ, zero, suc, ◌-◌, ◌<◌, Bool, true, false, not, ◌&&◌, List, [], ◌∷◌, ◌++◌, length, slice_index, IsTrue, inl, inr, refl, sym, ◌∙◌, ap, subst, arith}
use Rattle.std.proofs.lemmas.Bool.{both_ways, cases_eq, ne_eqb}
use Rattle.latin_board.specs.Squares.{GridValue}
use Rattle.trail_solver.specs.declared.rules.Rules.{Ghosts}
use Rattle.needed_items.specs.Needed.{HasOnly, IsThinned, all_but}
use Rattle.needed_items.specs.InTurn.{HasSeveral, IsLeftInTurn, falling}
use Rattle.needed_items.proofs.ItemLaws.{ItemLaws, all_but_itself}
use Rattle.needed_items.proofs.SecondSolutions.{only_of_not_two}

-- ---- orders

-- the length of a falling order
pub length_falling : (n : ℕ) → length (falling n) ≡ n
length_falling zero = refl
length_falling (suc n) = ap suc (length_falling n)

-- what stands at a place of a falling order
pub falling_at : (n k : ℕ) → k < n → slice_index (falling n) k ≡ n - 1 - k
falling_at zero k inside = absurd (omega (arith, inside))
falling_at (suc n) zero inside = omega arith
falling_at (suc n) (suc k) inside = let rest = falling_at n k (omega (arith, inside)) in omega (arith, rest, inside)

-- each item of a falling order is below the count
pub falling_below : (n m k : ℕ) → n ≡ m → k < length (falling n) → slice_index (falling n) k < m
falling_below n m k same inside = grind (arith, nat_tests, length_falling, falling_at)

-- what is left by one order, and then by another, is left by both end to end
pub in_turn_both : {P : Type 0} (f : Ghosts P) (Fails : P → Type 0) (first second : List ℕ) (p q r : P)
    → IsLeftInTurn f Fails first p q → IsLeftInTurn f Fails second q r → IsLeftInTurn f Fails (first ++ second) p r
in_turn_both f Fails [] second p q r one two = subst (λ s. IsLeftInTurn f Fails second s r) one two
in_turn_both f Fails (item ∷ first) second p q r one two = elim one [
  | inl stays ↦ inl (stays.0, in_turn_both f Fails first second p q r stays.1 two)
  | inr goes ↦ inr (goes.0, in_turn_both f Fails first second (f.cut p (all_but item)) q r goes.1 two)
]

-- just one puzzle is left
pub in_turn_once : {P : Type 0} (f : Ghosts P) (Fails : P → Type 0) (order : List ℕ) (p q r : P)
    → IsLeftInTurn f Fails order p q
    → IsLeftInTurn f Fails order p r → q ≡ r
in_turn_once f Fails [] p q r first second = first ∙ sym second
in_turn_once f Fails (item ∷ order) p q r first second = elim first [
  | inl stays ↦ elim second [
    | inl also ↦ in_turn_once f Fails order p q r stays.1 also.1
    | inr goes ↦ absurd (goes.0 stays.0)
  ]
  | inr goes ↦ elim second [
    | inl stays ↦ absurd (goes.0 stays.0)
    | inr also ↦ in_turn_once f Fails order (f.cut p (all_but item)) q r goes.1 also.1
  ]
]

-- ---- the items that are left

-- q is p cut down to the items that q has
pub record IsCutDown {P : Type 0} (f : Ghosts P) (p q : P) : Type 0 where
  pub valid : f.valid q
  pub size : (f.puzzle q).size ≡ (f.puzzle p).size
  pub is_cut : q ≡ f.cut p (f.has q)

-- an item that is left was there
cut_had : {P : Type 0} (f : Ghosts P) (p q : P) (i : ℕ) → ItemLaws f → f.valid p → IsCutDown f p q
    → i < f.items_of (f.puzzle p).size
    → IsTrue (f.has q i) → IsTrue (f.has p i)
cut_had f p q i laws valid cut inside there = grind (arith, nat_tests)

-- an item that was cut isn't left
cut_lost : {P : Type 0} (f : Ghosts P) (p q : P) (item i : ℕ) → ItemLaws f → f.valid p
    → IsCutDown f (f.cut p (all_but item)) q
    → i < f.items_of (f.puzzle p).size → IsTrue (f.has q i) → IsTrue (all_but item i)
cut_lost f p q item i laws valid cut inside there = grind (arith, nat_tests, cut_had)

-- what is left has only items of the puzzle
pub cut_in_turn : {P : Type 0} (f : Ghosts P) (Fails : P → Type 0) (order : List ℕ) (p q : P) → ItemLaws f → f.valid p
    → IsLeftInTurn f Fails order p q → IsCutDown f p q
cut_in_turn f Fails [] p q laws valid same = subst (IsCutDown f p) (sym same) (record {
  valid = valid;
  size = refl;
  is_cut = sym (laws.cut_all p valid) ∙ laws.cut_agrees p (λ i. true) (f.has p) valid (λ i inside there. sym there);
})
cut_in_turn f Fails (item ∷ order) p q laws valid tried = elim tried [
  | inl stays ↦ cut_in_turn f Fails order p q laws valid stays.1
  | inr goes ↦
      let cut = cut_in_turn f Fails order (f.cut p (all_but item)) q laws (laws.cut_valid p (all_but item) valid)
      goes.1 in
      record {
        valid = cut.valid;
        size = cut.size ∙ laws.cut_size p (all_but item);
        is_cut =
            cut.is_cut ∙ laws.cut_cut p (all_but item) (f.has q) valid
            ∙ laws.cut_agrees p (λ i. all_but item i && f.has q i) (f.has q) valid (λ i inside there.
            both (all_but item i) (f.has q i) (cut_lost f p q item i laws valid cut inside));
      }
]
  where
    both : (a b : Bool) → (IsTrue b → IsTrue a) → (a && b) ≡ b
    both true b h = refl
    both false true h = h refl
    both false false h = refl

-- a test that fails without some items fails without more of them
abbrev pub KeepsFailing : {P : Type 0} → Ghosts P → (P → Type 0) → P → Type 0
KeepsFailing f Fails p = (a b : ℕ → Bool) → Fails (f.cut p a) → Fails (f.cut (f.cut p a) b)

-- where an item was tried and stayed, each cut of what is left that takes it away fails
pub needed_in_turn : {P : Type 0} (f : Ghosts P) (Fails : P → Type 0) (order : List ℕ) (p q : P) (k i : ℕ)
    (keep : ℕ → Bool) → ItemLaws f
    → f.valid p → KeepsFailing f Fails p → IsLeftInTurn f Fails order p q → k < length order → slice_index order k ≡ i
    → i < f.items_of (f.puzzle p).size → IsTrue (f.has q i) → keep i ≡ false → Fails (f.cut q keep)
needed_in_turn f Fails [] p q k i keep laws valid more tried inside here below there lost =
    absurd (omega (arith, inside))
needed_in_turn {P} f Fails (item ∷ order) p q zero i keep laws valid more tried inside here below there lost =
    elim tried [
      | inl stays ↦
          let left : ℕ → Bool = λ j. f.has q j && keep j in
          let fewer : f.cut (f.cut p (all_but item)) left ≡ f.cut q keep =
          laws.cut_cut p (all_but item) left valid
          ∙ laws.cut_agrees p (λ j. all_but item j && left j) left valid (λ j small had. without j)
          ∙ sym (laws.cut_cut p (f.has q) keep valid)
          ∙ ap (λ (r : P). f.cut r keep) (sym (cut_in_turn f Fails order p q laws valid stays.1).is_cut) in
          subst Fails fewer (more (all_but item) left stays.0)
      | inr goes ↦
          let cut = cut_in_turn f Fails order (f.cut p (all_but item)) q laws (laws.cut_valid p (all_but item) valid)
          goes.1 in
          absurd (both_ways (all_but item i) (ap (all_but item) (sym here) ∙ all_but_itself item)
          (cut_lost f p q item i laws valid cut below there))
    ]
  where
    none : (b : Bool) → false ≡ (b && false)
    none true = refl
    none false = refl

    without : (j : ℕ) → (all_but item j && (f.has q j && keep j)) ≡ (f.has q j && keep j)
    without j = elim (cases_eq j item) [
      | inl same ↦
          let gone : keep j ≡ false = ap keep (same ∙ here) ∙ lost in
          rw (ap (all_but item) same ∙ all_but_itself item, gone) (none (f.has q j))
      | inr other ↦ rw (ap not (ne_eqb j item other)) refl
    ]
needed_in_turn f Fails (item ∷ order) p q (suc k) i keep laws valid more tried inside here below there lost =
    elim tried [
      | inl stays ↦ needed_in_turn f Fails order p q k i keep laws valid more stays.1 (omega (arith, inside)) here below
          there lost
      | inr goes ↦
          needed_in_turn f Fails order (f.cut p (all_but item)) q k i keep laws (laws.cut_valid p (all_but item) valid)
          (λ a b fails.
          let again = λ (c : ℕ → Bool). laws.cut_cut p (all_but item) c valid in
          subst (λ r. Fails (f.cut r b)) (sym (again a))
          (more (λ j. all_but item j && a j) b (subst Fails (again a) fails)))
          goes.1 (omega (arith, inside)) here
          (subst (λ (n : ℕ). i < f.items_of n) (sym (laws.cut_size p (all_but item))) below) there lost
    ]

-- where all items are tried, each that is left is needed
pub thinned_in_turn : {P : Type 0} (f : Ghosts P) (Passes Fails : P → Type 0) (p q : P) (n : ℕ) → ItemLaws f
    → f.valid p → KeepsFailing f Fails p
    → ((r : P) → Passes r → Fails r → ⊥) → n ≡ f.items_of (f.puzzle p).size → Passes q
    → IsLeftInTurn f Fails (falling n) p q
    → IsThinned f Passes p q
thinned_in_turn f Passes Fails p q n laws valid more apart all passes tried =
    let cut = cut_in_turn f Fails (falling n) p q laws valid tried in
    record {
      is_cut = cut.is_cut;
      valid = cut.valid;
      passes = passes;
      needed = λ i inside spare.
          let below : i < f.items_of (f.puzzle p).size = subst (λ (w : ℕ). i < f.items_of w) cut.size inside in
          let place : n - 1 - i < n = omega (arith, below, all) in
          let at = falling_at n (n - 1 - i) place in
          apart (f.cut q (all_but i)) spare.passes
          (needed_in_turn f Fails (falling n) p q (n - 1 - i) i (all_but i) laws valid more tried
          (omega (arith, length_falling n, place)) (omega (arith, at, below, all)) below spare.there
          (all_but_itself i));
    }

-- ---- several solutions

-- what has several solutions has them with fewer items
pub several_kept : {P : Type 0} (f : Ghosts P) (p : P) → ItemLaws f → f.valid p → KeepsFailing f (HasSeveral f) p
several_kept f p laws valid a b two =
    let solved = λ (g : GridValue). laws.cut_solved (f.cut p a) b g (laws.cut_valid p a valid) in
    record {
      one = two.one;
      other = two.other;
      one_solves = solved two.one two.one_solves;
      other_solves = solved two.other two.other_solves;
      differ = two.differ;
    }

-- the only solution of a puzzle stays the only one of what is left
pub only_in_turn : {P : Type 0} (f : Ghosts P) (g : GridValue) (order : List ℕ) (p q : P) → ItemLaws f → f.valid p
    → HasOnly f g p → IsLeftInTurn f (HasSeveral f) order p q → HasOnly f g q
only_in_turn f g [] p q laws valid only same = subst (HasOnly f g) (sym same) only
only_in_turn f g (item ∷ order) p q laws valid only tried = elim tried [
  | inl stays ↦ only_in_turn f g order p q laws valid only stays.1
  | inr goes ↦
      let r = f.cut p (all_but item) in
      only_in_turn f g order r q laws (laws.cut_valid p (all_but item) valid)
      (only_of_not_two (f.puzzle r) g (laws.cut_solved p (all_but item) g valid only.solves) goes.0) goes.1
]

-- Tests of the numbers of a range.
use Rattle.std.proofs.lemmas.Bool.Decides.{nat_tests}
use Rattle.std.proofs.Common.{◌≡◌, ℕ, zero, suc, ◌+◌, ◌<◌, ◌≤◌, Bool, true, false, refl, sym, ◌∙◌, inl, inr, arith}
use Rattle.std.specs.List.{list_all, list_any, range_with_len}
use Rattle.std.proofs.lemmas.Bool.{false≢true, cases_lt, and_parts, or_cases, or_right, false_from_ne_true}

-- a test that holds for all numbers of a range holds for each
pub all_in_range : (p : ℕ → Bool) (a n i : ℕ) → list_all p (range_with_len a n) ≡ true → a ≤ i → i < a + n → p i ≡ true
all_in_range p a zero i e low high = absurd (omega arith)
all_in_range p a (suc n) i e low high =
    let parts = and_parts (p a) (list_all p (range_with_len (a + 1) n)) e in
    elim (cases_lt a i) [
      | inl below ↦ all_in_range p (a + 1) n i parts.1 (omega arith) (omega arith)
      | inr same ↦ let here : i ≡ a = omega arith in rw here parts.0
    ]

-- a test that holds for each number of a range holds for all
pub range_all : (p : ℕ → Bool) (a n : ℕ) → ((i : ℕ) → a ≤ i → i < a + n → p i ≡ true)
    → list_all p (range_with_len a n) ≡ true
range_all p a zero h = refl
range_all p a (suc n) h =
    rw (h a (omega arith) (omega arith)) (range_all p (a + 1) n (λ i low high. h i (omega arith) (omega arith)))

-- a test that holds for one number of a range holds for some
pub range_some : (p : ℕ → Bool) (a n i : ℕ) → a ≤ i → i < a + n → p i ≡ true → list_any p (range_with_len a n) ≡ true
range_some p a zero i low high h = absurd (omega arith)
range_some p a (suc n) i low high h = elim (cases_lt a i) [
  | inl below ↦ or_right (p a) (list_any p (range_with_len (a + 1) n))
      (range_some p (a + 1) n i (omega arith) (omega arith) h)
  | inr same ↦ let here : p a ≡ true = let e : a ≡ i = omega arith in rw e h in rw here refl
]

pub some_in_range : (p : ℕ → Bool) (a n : ℕ) → list_any p (range_with_len a n) ≡ true
    → (i : ℕ) × (a ≤ i) × (i < a + n) × (p i ≡ true)
some_in_range p a zero e = absurd (false≢true e)
some_in_range p a (suc n) e = elim (or_cases (p a) (list_any p (range_with_len (a + 1) n)) e) [
  | inl here ↦ (a, omega arith, omega arith, here)
  | inr later ↦
      let (k, low, high, holds) = some_in_range p (a + 1) n later in (k, omega (arith, low), omega (arith, high), holds)
]

-- a test that holds for no number of a range fails for each
pub none_in_range : (p : ℕ → Bool) (a n i : ℕ) → list_any p (range_with_len a n) ≡ false → a ≤ i → i < a + n
    → p i ≡ false
none_in_range p a n i e low high = false_from_ne_true (p i) (λ h. false≢true (sym e ∙ range_some p a n i low high h))

-- a test that fails for each number of a range holds for none
pub range_none : (p : ℕ → Bool) (a n : ℕ) → ((i : ℕ) → a ≤ i → i < a + n → p i ≡ false)
    → list_any p (range_with_len a n) ≡ false
range_none p a n h = grind (arith, nat_tests, false_from_ne_true, some_in_range)

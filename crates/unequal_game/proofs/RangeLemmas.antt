-- One number more in a range.
use Rattle.std.proofs.Common.{◌≡◌, ℕ, ◌+◌, Bool, false, inl, inr, arith}
use Rattle.std.specs.List.{list_any, range_with_len}
use Rattle.std.proofs.lemmas.Bool.{cases_lt}
use Rattle.unequal_game.specs.Laws.RangeTests.{none_in_range, range_none}

-- a test that holds for no number below n, and not for n, holds for none below n + 1
pub none_more : (p : ℕ → Bool) (n : ℕ) → list_any p (range_with_len 0 n) ≡ false → p n ≡ false
    → list_any p (range_with_len 0 (n + 1)) ≡ false
none_more p n before here = range_none p 0 (n + 1) (λ i low high. elim (cases_lt i n) [
  | inl below ↦ none_in_range p 0 n i before low (omega arith)
  | inr same ↦ let last : i ≡ n = omega arith in rw last here
])

-- Sets of counts beside a clue, and tests of all strikes and of all numbers.
use Rattle.std.proofs.Common.{◌≡◌, ◌<◌, ◌≤◌, ◌+◌, ◌^◌, ◌%◌, ◌==◌, ℕ, suc, Bool, true, false, true≢false, not, ◌||◌, sym, ◌∙◌, arith}
use Rattle.std.specs.List.{list_all, range_with_len}
use Rattle.std.proofs.Math.Pow.{pow_mono}
use Rattle.std.proofs.lemmas.Bool.{false_from_ne_true, lt-ltb, eqb-true}
use Rattle.std.proofs.Math.Nat.{mod-eq_of_lt}
use Rattle.step_texts.specs.declared.headings.Beside.TheVariants.{Below, Above}
use Rattle.step_texts.specs.Headings.{are_beside}
use Rattle.unequal_game.specs.Laws.RangeTests.{all_in_range}

-- a set of numbers below 16 is less than a power of two from the 16th on
pub below_all : (clue bits : ℕ) → bits < 2 ^ 16 → 16 ≤ clue → bits < 2 ^ clue
below_all clue bits low high = let more : 2 ^ 16 ≤ 2 ^ clue = pow_mono high in omega (arith, low, more)

-- a set that has something is below a clue from 16 on
pub below_high : (clue counts : ℕ) → 0 < counts → counts < 2 ^ 16 → 16 ≤ clue → true ≡ are_beside Below clue counts
below_high clue counts some low high =
    sym (rw (lt-ltb 0 counts some) (lt-ltb counts (2 ^ clue) (below_all clue counts low high)))

-- a set that has something isn't above a clue from 16 on
pub not_above_high : (clue counts : ℕ) → 0 < counts → counts < 2 ^ 16 → 16 ≤ clue → false ≡ are_beside Above clue counts
not_above_high clue counts some low high =
    let small : counts < 2 ^ (clue + 1) = below_all (clue + 1) counts low (omega (arith, high)) in
    let whole : counts % 2 ^ (clue + 1) ≡ counts = mod-eq_of_lt small in
    let other : (counts == 0) ≡ false = false_from_ne_true (counts == 0) (λ is. omega (arith, some, eqb-true counts 0 is)) in
    sym (rw (lt-ltb 0 counts some) (rw whole other))

-- a test that fails at one number of a range doesn't hold for all of it
pub one_fails : (p : ℕ → Bool) (a n i : ℕ) → a ≤ i → i < a + n → p i ≡ false → list_all p (range_with_len a n) ≡ false
one_fails p a n i low high fails =
    false_from_ne_true (list_all p (range_with_len a n)) (λ all. true≢false (sym (all_in_range p a n i all low high) ∙ fails))

-- a number that is there, and of whose counts the test doesn't hold
pub number_fails : (has test : Bool) → has ≡ true → test ≡ false → (not has || test) ≡ false
number_fails has test there fails = rw there fails

-- The members of the set that a call makes, where that set is known as a number.
use Rattle.std.proofs.Common.{◌≡◌, ℕ, ◌+◌, ◌-◌, ◌*◌, ◌/◌, ◌%◌, ◌^◌, ◌<◌, arith, true, not, ◌&&◌, ◌||◌, eqb, leb, cond, bit_and, bit_or, bit_xor, w16}
use Rattle.std.specs.Int.{bit_not}
use Rattle.std.proofs.lemmas.Nat.{one_shl}
use Rattle.number_sets.specs.Sets.{has_number}
use Rattle.number_sets.proofs.Members.{has_number-one, has_number-numbers_to, has_number-or, has_number-and, has_number-without, has_number-half, has_number-at_most, has_number-flip, raised_only, raised_all}

pub one_has : (n k : ℕ) → n < 16 → has_number (1 * 2 ^ n % 65536) k ≡ eqb k n
one_has n k small = rw (one_shl n 16 small) (has_number-one n k)

pub up_to_has : (n k : ℕ) → n < 15 → has_number (1 * 2 ^ (n + 1) % 65536 - 2) k ≡ (leb 1 k && leb k n)
up_to_has n k small = rw (one_shl (n + 1) 16 (omega arith)) (has_number-numbers_to n k)

pub union_has : (set a b k : ℕ) → set ≡ bit_or a b → has_number set k ≡ (has_number a k || has_number b k)
union_has set a b k is = rw is (has_number-or a b k)

pub intersection_has : (set a b k : ℕ) → set ≡ bit_and a b → has_number set k ≡ (has_number a k && has_number b k)
intersection_has set a b k is = rw is (has_number-and a b k)

pub difference_has : (set a b k : ℕ) → a < 2 ^ 16 → b < 2 ^ 16 → set ≡ bit_and a (bit_not w16 b)
    → has_number set k ≡ (has_number a k && not (has_number b k))
difference_has set a b k a_small b_small is = rw is (has_number-without a b k a_small b_small)

pub lowered_has : (set m k : ℕ) → set ≡ m / 2 → has_number set k ≡ has_number m (k + 1)
lowered_has set m k is = rw is (has_number-half m k)

pub at_most_has : (m n k : ℕ) → n < 15 → has_number (bit_and m (1 * 2 ^ (n + 1) % 65536 - 1)) k ≡ (has_number m k && leb k n)
at_most_has m n k small = rw (one_shl (n + 1) 16 (omega arith)) (has_number-at_most m n k)

pub flip_has : (m n k : ℕ) → n < 16
    → has_number (bit_xor m (1 * 2 ^ n % 65536)) k ≡ cond (eqb k n) (not (has_number m k)) (has_number m k)
flip_has m n k small = rw (one_shl n 16 small) (has_number-flip m n k)

pub raised_has_only : (set m c : ℕ) → set ≡ m * 2 % 65536 → has_number set c ≡ true → (b : ℕ) × (b + 1 ≡ c) × (has_number m b ≡ true)
raised_has_only set m c is e = raised_only m c (rw is at e)

pub raised_has_all : (set m b : ℕ) → set ≡ m * 2 % 65536 → b < 15 → has_number m b ≡ true → has_number set (b + 1) ≡ true
raised_has_all set m b is low e = rw is (raised_all m b low e)

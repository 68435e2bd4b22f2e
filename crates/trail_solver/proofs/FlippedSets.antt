-- A set's numbers taken out of a square's set, or put into it.
use Rattle.std.proofs.lemmas.Bool.Decides.{nat_tests}
use Rattle.std.proofs.Common.{◌≡◌, ℕ, ◌+◌, ◌%◌, ◌<◌, eqb, cond, not, List, get_or, set, length, bit_xor, arith}
use Rattle.std.proofs.lemmas.Bool.{cases_Bool}
use Rattle.std.proofs.lemmas.List.{get_or-set_same, get_or-set_other, length-set}
use Rattle.std.proofs.lemmas.Nat.Bits.{bit_at_xor, bit_at-lt}
use Rattle.number_sets.specs.Sets.{has_number}
use Rattle.number_sets.proofs.Members.{bit-from_number, bit-from_no_number}
use Rattle.trail_solver.specs.Inner.Fields.{FlipsSet}

turned : (b : ℕ) → b < 2 → eqb ((b + 1) % 2) 1 ≡ not (eqb b 1)
turned b h = grind (arith, nat_tests)

unturned : (b : ℕ) → b < 2 → eqb ((b + 0) % 2) 1 ≡ eqb b 1
unturned b h = grind (arith, nat_tests)

has_number-xor : (a b k : ℕ) → has_number (bit_xor a b) k ≡ cond (has_number b k) (not (has_number a k)) (has_number a k)
has_number-xor a b k =
    grind (arith, nat_tests, cases_Bool, bit_at_xor, bit-from_number, turned, bit_at-lt, bit-from_no_number, unturned)

pub flips_set : (old : List ℕ) (cell values : ℕ) → cell < length old
    → FlipsSet old (set old cell (bit_xor (get_or old cell 0) values)) cell values
flips_set old cell values inside =
    grind (arith, nat_tests, length-set, get_or-set_same, has_number-xor, get_or-set_other)

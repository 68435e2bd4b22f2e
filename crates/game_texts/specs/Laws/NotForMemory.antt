-- A result that is made of readings that memory can't refuse is no refusal for memory either.
use Rattle.std.proofs.Common.{arith, ℕ, Bool, true, false, List, Result, Ok, Err, if◌then◌else◌}
use Rattle.std.proofs.lemmas.Bool.Decides.{nat_tests}
use Rattle.byte_text.specs.Reading.{◌>>=◌}
use Rattle.game_texts.specs.declared.id_fault.IdFault.{IdFault}
use Rattle.game_texts.specs.IdFaults.{NotForMemory, exactly}

-- if neither of two readings is refused for memory, one after the other isn't either
pub not_for_memory-then : {A B : Type 0} (r : Result A IdFault) (f : A → Result B IdFault) → NotForMemory r
    → ((a : A) → NotForMemory (f a))
    → NotForMemory (r >>= f)
not_for_memory-then (Ok a) f h k = k a
not_for_memory-then (Err e) f h k = h

-- if neither of two results is a refusal for memory, the one that a test chooses isn't either
pub not_for_memory-if : {A : Type 0} (b : Bool) (x y : Result A IdFault) → NotForMemory x → NotForMemory y
    → NotForMemory (if b then x else y)
not_for_memory-if true x y h k = h
not_for_memory-if false x y h k = k

-- the test of a list's length refuses nothing for memory
pub exactly_not_for_memory : {X : Type 0} (n : ℕ) (xs : List X) → NotForMemory (exactly n xs)
exactly_not_for_memory n xs = grind (arith, nat_tests, not_for_memory-if)

-- A list of just so many members is taken as it is, and any other refused.
use Rattle.std.proofs.lemmas.Bool.Decides.{nat_tests}
use Rattle.std.proofs.Common.{◌≡◌, ℕ, ◌<◌, List, length, Ok, Err, refl, arith}
use Rattle.std.proofs.lemmas.Bool.{lt-ltb, le-ltb}
use Rattle.game_texts.specs.declared.id_fault.IdFault.TheVariants.{TooFew, TooMany}
use Rattle.game_texts.specs.IdFaults.{exactly}
use Rattle.game_texts.specs.Laws.Refusals.{refused_then}

-- a list that is taken has the length that was asked for
pub exactly_taken : {X : Type 0} (n : ℕ) (xs ys : List X) → exactly n xs ≡ Ok ys → (xs ≡ ys) × (length xs ≡ n)
exactly_taken n xs ys is = grind (arith, nat_tests, refused_then)

-- a list of the length that is asked for is taken
pub exactly_again : {X : Type 0} (n : ℕ) (xs : List X) → length xs ≡ n → exactly n xs ≡ Ok xs
exactly_again n xs count = rw (le-ltb (length xs) n (omega arith), le-ltb n (length xs) (omega arith)) refl

pub exactly_few : {X : Type 0} (n : ℕ) (xs : List X) → length xs < n → exactly n xs ≡ Err TooFew
exactly_few n xs few = rw (lt-ltb (length xs) n few) refl

pub exactly_many : {X : Type 0} (n : ℕ) (xs : List X) → n < length xs → exactly n xs ≡ Err TooMany
exactly_many n xs many = rw (le-ltb (length xs) n (omega arith), lt-ltb n (length xs) many) refl

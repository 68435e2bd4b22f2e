-- A table of n places that is filled from the front.
use Rattle.std.specs.Prelude.{◌≡◌, ℕ, ◌-◌, ◌≤◌, List, ◌++◌, length, take, drop, replicate}
use Rattle.std.proofs.Common.{take-append-drop}

-- the table has n places, and is empty from this place on
pub record IsFilledTo {X : Type 0} (empty : X) (n place : ℕ) (xs : List X) : Type 0 where
  pub count : length xs ≡ n
  pub within : place ≤ n
  pub rest : drop place xs ≡ replicate (n - place) empty

-- the entries before the place and the empty ones from it on make up the whole table
pub places_and_rest : {X : Type 0} (empty : X) (n place : ℕ) (xs : List X) → IsFilledTo empty n place xs
    → take place xs ++ replicate (n - place) empty ≡ xs
places_and_rest empty n place xs filled = rw (← filled.rest) (take-append-drop place xs)

-- The sink of this crate.
use Rattle.std.specs.Prelude.{ℕ, List, Bool}

-- the bytes that were taken, and whether a call has failed
pub record SheetState : Type 0 where
  pub taken : List ℕ
  pub failed : Bool

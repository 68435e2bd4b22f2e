-- The devices over `std`'s readers and writers as contracts see them.
use Rattle.std.specs.Prelude.{Bool}

-- the reader or writer, and whether a call has failed
pub record StreamState (T : Type 0) : Type 0 where
  pub stream : T
  pub failed : Bool

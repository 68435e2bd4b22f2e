-- The devices over memory as contracts see them.
use Rattle.std.specs.Prelude.{ℕ, Bool, List}

-- a source: the bytes to come, how many a read gives at most, and whether it has failed;
-- the call number `fails_in` from here on fails, counted from 1, or none does where that is 0
pub record SourceState : Type 0 where
  pub to_come : List ℕ
  pub piece : ℕ
  pub fails_in : ℕ
  pub failed : Bool

-- a sink: the bytes taken, those of them that it had when it was last flushed, how many more there is room
-- for, how many a write takes at most, and its failures, counted as those of a source
pub record SinkState : Type 0 where
  pub taken : List ℕ
  pub flushed : List ℕ
  pub room : ℕ
  pub piece : ℕ
  pub fails_in : ℕ
  pub failed : Bool

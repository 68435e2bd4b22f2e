-- The bytes that a session keeps, as contracts see them.
use Rattle.std.specs.Prelude.{ℕ, List, Option}

-- the bytes that a session keeps of each kind, or none
pub record ExtrasValue : Type 0 where
  pub seed : Option (List ℕ)
  pub auxinfo : Option (List ℕ)
  pub ui : Option (List ℕ)
  pub time : Option (List ℕ)

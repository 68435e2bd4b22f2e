-- Counts as numbers of JSON.
use Rattle.std.specs.Prelude.{ℕ}
use Rattle.serde_json.specs.Data.{Data, number, unsigned}

-- a count, as a number of JSON
abbrev pub count_data : ℕ → Data
count_data n = number (unsigned n)

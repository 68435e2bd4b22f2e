-- Steps that may fail, one after the other.
use Rattle.std.proofs.Common.{◌≡◌, Result, Ok, Err, ap, refl}
use Rattle.byte_text.specs.Reading.{◌>>=◌}

-- a step's value, and what the rest makes of it
pub record BothSteps {A B E : Type 0} (step : Result A E) (more : A → Result B E) (whole : B) : Type 0 where
  pub value : A
  pub gives : step ≡ Ok value
  pub rest : more value ≡ Ok whole

-- where the whole succeeds, so did the first step, and the rest on its value
pub bind_taken : {A B E : Type 0} (step : Result A E) (rest : A → Result B E) (whole : B) → step >>= rest ≡ Ok whole
    → BothSteps step rest whole
bind_taken (Ok a) rest whole is = record { value = a; gives = refl; rest = is }
bind_taken (Err e) rest whole is = cc

-- after a step that gave a value, the rest is done with it
pub bind_again : {A B E : Type 0} (step : Result A E) (rest : A → Result B E) (value : A) → step ≡ Ok value → step >>= rest ≡ rest value
bind_again step rest value is = ap (λ r. r >>= rest) is

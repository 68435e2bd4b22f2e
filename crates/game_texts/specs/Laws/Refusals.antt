-- If a text was read, none of the tests refused it.
use Rattle.std.proofs.Common.{◌≡◌, Bool, true, false, if◌then◌else◌, Result, Ok, Err, refl}

-- if there is a value after a test that refuses, the test didn't hold, and the rest gave the value
pub refused_then : {A E : Type 0} (test : Bool) (e : E) (rest : Result A E) (value : A)
    → (if test then Err e else rest) ≡ Ok value
    → (test ≡ false) × (rest ≡ Ok value)
refused_then true e rest value is = cc
refused_then false e rest value is = (refl, is)

-- if there is a value after a test that has to hold, the test held, and the rest gave the value
pub refused_else : {A E : Type 0} (test : Bool) (rest : Result A E) (e : E) (value : A)
    → (if test then rest else Err e) ≡ Ok value
    → (test ≡ true) × (rest ≡ Ok value)
refused_else true rest e value is = (refl, is)
refused_else false rest e value is = cc

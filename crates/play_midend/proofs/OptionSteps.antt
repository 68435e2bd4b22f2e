-- Steps that may give nothing, or fail: if the whole gives something, so did each step.
use Rattle.std.proofs.Common.{◌≡◌, Bool, true, false, Option, Some, None, option_map, option_and_then, Result, Ok, Err, ok_or, cond, refl}
use Rattle.std.specs.Result.{result_ok}

-- the option has a value, and y comes of this value
pub record BothThere {A B : Type 0} (o : Option A) (of : A → B) (y : B) : Type 0 where
  pub value : A
  pub gives : o ≡ Some value
  pub rest : of value ≡ y

-- if a function of an option gives something, the option had a value
pub map_taken : {A B : Type 0} (f : A → B) (o : Option A) (y : B) → option_map f o ≡ Some y → BothThere o f y
map_taken f None y is = cc
map_taken f (Some x) y is = record { value = x; gives = refl; rest = cc }

-- if two steps give something, so did the first, and the second of its value
pub and_then_taken : {A B : Type 0} (f : A → Option B) (o : Option A) (y : B)
    → option_and_then f o ≡ Some y → BothThere o f (Some y)
and_then_taken f None y is = cc
and_then_taken f (Some x) y is = record { value = x; gives = refl; rest = is }

-- if an option, with a fault in place of nothing, gives a value, the option had it
pub ok_or_taken : {A E : Type 0} (o : Option A) (e : E) (y : A) → ok_or o e ≡ Ok y → o ≡ Some y
ok_or_taken None e y is = cc
ok_or_taken (Some x) e y is = cc

-- if a result, with another fault in place of its own, gives a value, the result had it
pub result_taken : {A E F : Type 0} (r : Result A E) (fault : F) (y : A) → ok_or (result_ok r) fault ≡ Ok y → r ≡ Ok y
result_taken (Ok x) fault y is = cc
result_taken (Err e) fault y is = cc

pub error_of_none : {A E : Type 0} (o : Option A) (e fault : E) → Err e ≡ ok_or o fault → o ≡ None → e ≡ fault
error_of_none None e fault is none = cc
error_of_none (Some x) e fault is none = cc

-- if an option that is there only under a test has a value, the test holds
pub where_taken : {A : Type 0} (test : Bool) (o : Option A) (y : A)
    → cond test o None ≡ Some y → (test ≡ true) × (o ≡ Some y)
where_taken true o y is = (refl, is)
where_taken false o y is = cc

-- if there is a value after a test that refuses, the test doesn't hold, and the rest gave the value
pub ok_else : {A E : Type 0} (test : Bool) (fault : E) (r : Result A E) (y : A)
    → cond test (Err fault) r ≡ Ok y → (test ≡ false) × (r ≡ Ok y)
ok_else true fault r y is = cc
ok_else false fault r y is = (refl, is)

-- if there is a value after a test that has to hold, the test holds, and the value is the one it gives
pub ok_where : {A E : Type 0} (test : Bool) (x : A) (fault : E) (y : A)
    → cond test (Ok x) (Err fault) ≡ Ok y → (test ≡ true) × (x ≡ y)
ok_where true x fault y is = (refl, cc)
ok_where false x fault y is = cc

-- The sign between a square and a later one tells which is the greater.
use Rattle.std.proofs.lemmas.Bool.Decides.{nat_tests}
use Rattle.std.proofs.Common.{◌≡◌, ◌↔◌, ℕ, ◌+◌, ◌<◌, refl, arith}
use Rattle.std.proofs.lemmas.Bool.{ne_eqb}
use Rattle.unequal_game.specs.declared.unequal.sign.Sign.{Sign}
use Rattle.unequal_game.specs.declared.unequal.sign.Sign.TheVariants.{Absent, FirstGreater, SecondGreater}
use Rattle.unequal_game.specs.Unequal.{UnequalValue, IsGreater, sign_between}
use Rattle.unequal_game.specs.Laws.Signs.{first_said, second_said}

-- from a square back to an earlier one no sign stands
none_back : (v : UnequalValue) (a b : ℕ) → a < b → sign_between v b a ≡ Absent
none_back v a b low = rw (ne_eqb a (b + 1) (λ e. omega (arith, e, low)), ne_eqb a (b + v.size) (λ e. omega (arith, e, low))) refl

-- the first of two squares is the greater exactly where the sign between them says so
pub first_by_sign : (v : UnequalValue) (a b : ℕ) (s : Sign) → a < b → s ≡ sign_between v a b → (s ≡ FirstGreater) ↔ IsGreater v a b
first_by_sign v a b s low is = grind (arith, nat_tests, second_said, none_back)

-- the second of two squares is the greater exactly where the sign between them says so
pub second_by_sign : (v : UnequalValue) (a b : ℕ) (s : Sign) → a < b → s ≡ sign_between v a b → (s ≡ SecondGreater) ↔ IsGreater v b a
second_by_sign v a b s low is = grind (arith, nat_tests, first_said, none_back)

-- Decimal numbers without leading zeros: what is read is std's `decimal` of the number, and `decimal` is read.
use Rattle.std.proofs.lemmas.Bool.Decides.{nat_tests}
use Rattle.std.proofs.Common.{◌≡◌, ◌≢◌, ℕ, ◌+◌, ◌-◌, ◌*◌, ◌^◌, ◌<◌, ◌≤◌, Bool, true, false, ◌&&◌, List, [], ◌∷◌, length, get_or, Option, Some, None, refl, sym, ap, ◌∙◌, arith, rules, IfSome}
use Rattle.std.specs.Fmt.{decimal}
use Rattle.std.proofs.lemmas.Str.Parse.{IsNumeralModel, numerals_by_fold}
use Rattle.std.proofs.lemmas.Fmt.{decimal-digits_value, digits_decimal, digits_value-decimal, decimal_nonempty, first_decimal, decimal_digit}
use borrow.Author.Tests.{eqb-false, leb-true, le-leb, apart_eqb}
use Rattle.std.proofs.lemmas.Bool.{and_parts, cases_eq, cond_both}
use Rattle.std.proofs.lemmas.Option.{cond_some, option_and_then_some}
use Rattle.byte_text.specs.Bytes.{digit}
use Rattle.byte_text.specs.Cuts.{Lacks}
use Rattle.byte_text.specs.Decimals.{is_digit, digit_onto, number_from, has_leading_zero, decimal_value}

-- all bytes are digits
abbrev all_digits : List ℕ → Bool
all_digits [] = true
all_digits (b ∷ bs) = is_digit b && all_digits bs

-- the value of the digits, after digits of this value
abbrev value_onto : ℕ → List ℕ → ℕ
value_onto n [] = n
value_onto n (b ∷ bs) = value_onto (n * 10 + (b - 48)) bs

own : IsNumeralModel (λ ds. all_digits ds ≡ true) (value_onto 0)
own = numerals_by_fold _ (search rules) value_onto (search rules)

-- a digit that is taken multiplies the number by ten and adds its own, up to the greatest
digit_onto_taken : (greatest n b m : ℕ) → digit_onto greatest n b ≡ Some m → (is_digit b ≡ true) × (m ≡ n * 10 + (b - 48)) × (m ≤ greatest)
digit_onto_taken greatest n b m read =
    let (fits, is) = cond_some _ (n * 10 + (b - 48)) m read in
    let (digit, within) = and_parts _ _ fits in (digit, sym is, omega (arith, is, leb-true _ _ within))

digit_onto_again : (greatest n b : ℕ) → is_digit b ≡ true → n * 10 + (b - 48) ≤ greatest
    → digit_onto greatest n b ≡ Some (n * 10 + (b - 48))
digit_onto_again greatest n b digit within = rw (digit, le-leb _ _ within) refl

-- what was read is digits that stand for the number
from_taken : (greatest n m : ℕ) (bs : List ℕ) → n ≤ greatest → number_from greatest n bs ≡ Some m
    → (all_digits bs ≡ true) × (value_onto n bs ≡ m) × (m ≤ greatest)
from_taken greatest n m [] = λ within read. let e : n ≡ m = cc in (refl, e, omega arith)
from_taken greatest n m (b ∷ bs) = λ within read. option_and_then_some _ (digit_onto greatest n b) m read (λ k one rest.
    let (digit, is, low) = digit_onto_taken greatest n b k one in
    let (digits, value, below) = from_taken greatest k m bs low rest in
    (rw (digit, digits) refl, ap (λ x. value_onto x bs) (sym is) ∙ value, below))

value_onto_ge : (n : ℕ) (bs : List ℕ) → n ≤ value_onto n bs
value_onto_ge n [] = omega arith
value_onto_ge n (b ∷ bs) = omega (arith, value_onto_ge (n * 10 + (b - 48)) bs)

digits_lack : (c : ℕ) (bs : List ℕ) → is_digit c ≡ false → all_digits bs ≡ true → Lacks c bs
digits_lack c [] other digits = grind (arith, nat_tests)
digits_lack c (b ∷ bs) other digits = grind (arith, nat_tests, and_parts, (digits_lack c bs other))

-- digits are read, up to the greatest number
from_again : (greatest n : ℕ) (bs : List ℕ) → all_digits bs ≡ true → value_onto n bs ≤ greatest
    → number_from greatest n bs ≡ Some (value_onto n bs)
from_again greatest n [] digits within = grind (arith, nat_tests)
from_again greatest n (b ∷ bs) digits within = grind (arith, nat_tests, and_parts, value_onto_ge, digit_onto_again, (from_again greatest (n * 10 + (b - 48)) bs))

-- a text that begins with `0`, but has no leading zero, is `0` alone
single_zero : (bs : List ℕ) → has_leading_zero bs ≡ false → get_or bs 0 0 ≡ 48 → length bs ≡ 1
single_zero [] none first = grind (arith, nat_tests)
single_zero (b ∷ []) none first = grind (arith, nat_tests)
single_zero (b ∷ c ∷ bs) none first = grind (arith, nat_tests, eqb-false)

no_leading_zero : (bs : List ℕ) → get_or bs 0 0 ≢ 48 → has_leading_zero bs ≡ false
no_leading_zero [] other = grind (arith, nat_tests)
no_leading_zero (b ∷ []) other = grind (arith, nat_tests)
no_leading_zero (b ∷ c ∷ bs) other = grind (arith, nat_tests, apart_eqb)

decimal_no_leading_zero : (m : ℕ) → m < 2 ^ 64 → has_leading_zero (decimal m) ≡ false
decimal_no_leading_zero m fits = grind (arith, nat_tests, cases_eq, decimal_digit, first_decimal, no_leading_zero)

-- a text that is read as a number is the decimal of that number
pub number_taken : (greatest m : ℕ) (bs : List ℕ) → greatest < 2 ^ 64 → decimal_value greatest bs ≡ Some m
    → (bs ≡ decimal m) × (m ≤ greatest)
unfolding decimal_value
number_taken greatest m [] = λ fits read. cc
number_taken greatest m (b ∷ bs) = λ fits.
    cond_both (has_leading_zero (b ∷ bs)) None (number_from greatest 0 (b ∷ bs)) (λ read. read ≡ Some m → (b ∷ bs ≡ decimal m) × (m ≤ greatest))
    (λ zero read. cc)
    (λ none read.
    let (digits, value, within) = from_taken greatest 0 m (b ∷ bs) (omega arith) read in
    let below : value_onto 0 (b ∷ bs) < 2 ^ 64 = omega (arith, value, within) in
    let written = decimal-digits_value own (b ∷ bs) digits (omega arith) (single_zero (b ∷ bs) none) below in
    (sym written ∙ ap decimal value, within))

number_of_digits : (greatest : ℕ) (bs : List ℕ) → 0 < length bs → has_leading_zero bs ≡ false
    → decimal_value greatest bs ≡ number_from greatest 0 bs
unfolding decimal_value
number_of_digits greatest [] some none = absurd (omega arith)
number_of_digits greatest (b ∷ bs) some none = rw none refl

-- the decimal of a number is read, also where leading zeros may stand
pub digits_again : (greatest m : ℕ) → m ≤ greatest → greatest < 2 ^ 64 → number_from greatest 0 (decimal m) ≡ Some m
digits_again greatest m within fits = grind (arith, nat_tests, digits_value-decimal, own, from_again, digits_decimal)

-- the decimal of a number is read as that number
pub number_again : (greatest m : ℕ) → m ≤ greatest → greatest < 2 ^ 64 → decimal_value greatest (decimal m) ≡ Some m
number_again greatest m within fits = grind (arith, nat_tests, number_of_digits, decimal_nonempty, decimal_no_leading_zero, digits_again)

-- a decimal has no other bytes than digits
pub lacks_decimal : (c m : ℕ) → m < 2 ^ 64 → is_digit c ≡ false → Lacks c (decimal m)
lacks_decimal c m fits other = digits_lack c (decimal m) other (digits_decimal own m fits)

-- a text for which a number is answered is the decimal of that number
pub number_found : (greatest : ℕ) (bs : List ℕ) (answer : Option ℕ) → greatest < 2 ^ 64 → answer ≡ decimal_value greatest bs
    → IfSome answer (λ m. (bs ≡ decimal m) × (m ≤ greatest))
number_found greatest bs None fits is = tt
number_found greatest bs (Some m) fits is = number_taken greatest m bs fits (sym is)

-- what `number` promises
pub ruleset reads = (number_found, number_again)

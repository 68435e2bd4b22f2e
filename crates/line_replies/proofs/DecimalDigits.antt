-- The last digit of a number in decimal, and the digits before it.
use Rattle.std.proofs.Common.{◌≡◌, ℕ, ◌+◌, ◌/◌, ◌%◌, ◌^◌, ◌<◌, ◌≤◌, List, [], ◌∷◌, ◌++◌, length, ap, ◌∙◌, append_assoc, length-append, encode_utf8, mod-eq_of_lt}
use Rattle.std.specs.Fmt.{decimal}
use Rattle.std.proofs.lemmas.Fmt.{decimal_digit, decimal_step}
use Rattle.std.proofs.lemmas.Str.{encode_ascii}

-- a number of at least 10 has one digit more than its tenth
pub length_step : (n : ℕ) → 10 ≤ n → n < 2 ^ 64 → length (decimal n) ≡ length (decimal (n / 10)) + 1
length_step n h k = ap length (decimal_step n h k) ∙ length-append (decimal (n / 10)) ((48 + n % 10) ∷ [])

-- a number below 10 has one digit
pub length_digit : (n : ℕ) → n < 10 → length (decimal n) ≡ 1
length_digit n h = ap length (decimal_digit n h)

-- an ASCII character has one byte
pub length_ascii : (c : ℕ) → c < 128 → length (encode_utf8 c) ≡ 1
length_ascii c h = ap length (encode_ascii c h)

-- the decimal of a number of at least 10 is that of its tenth, and then its last digit
pub ends_step : (n : ℕ) (before now next : List ℕ) → 10 ≤ n → n < 2 ^ 64 → now ≡ before ++ decimal (n / 10)
    → next ≡ now ++ (48 + n % 10) ∷ [] → next ≡ before ++ decimal n
ends_step n before now next h k old e =
    e ∙ rw (old, decimal_step n h k) (append_assoc before (decimal (n / 10)) ((48 + n % 10) ∷ []))

-- the decimal of a number below 10 is its digit
pub ends_digit : (n : ℕ) (before next : List ℕ) → n < 10 → next ≡ before ++ (48 + n % 10) ∷ [] → next ≡ before ++ decimal n
ends_digit n before next h e = e ∙ rw (decimal_digit n h, mod-eq_of_lt h)

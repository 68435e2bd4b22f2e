-- Digits, and numbers that are written in decimal without leading zeros.
use Rattle.std.specs.Prelude.{ℕ, ◌+◌, ◌-◌, ◌*◌, Bool, false, List, [], ◌∷◌, Option, Some, None, option_and_then, if◌then◌else◌, ◌==◌, ◌&&◌, nat_le}
use Rattle.byte_text.specs.Bytes.{digit_zero, digit_nine}

-- the byte is one of `0` to `9`
abbrev pub is_digit : ℕ → Bool
is_digit b = nat_le digit_zero b && nat_le b digit_nine

-- whether the text begins with a digit
abbrev pub begins_digit : List ℕ → Bool
begins_digit [] = false
begins_digit (b ∷ bs) = is_digit b

-- n with one more digit after it, up to the greatest number
abbrev pub digit_onto : ℕ → ℕ → ℕ → Option ℕ
digit_onto greatest n b =
    if is_digit b && nat_le (n * 10 + (b - digit_zero)) greatest then Some (n * 10 + (b - digit_zero)) else None

-- the number whose first digits have this value and whose others follow, or none where it gets above the greatest or a
-- byte is no digit
abbrev pub number_from : ℕ → ℕ → List ℕ → Option ℕ
number_from greatest n [] = Some n
number_from greatest n (b ∷ bs) = option_and_then (λ m. number_from greatest m bs) (digit_onto greatest n b)

-- whether the text begins with `0` and goes on after it
abbrev pub has_leading_zero : List ℕ → Bool
has_leading_zero [] = false
has_leading_zero (b ∷ []) = false
has_leading_zero (b ∷ c ∷ bs) = b == digit_zero

-- the number from 0 to the greatest whose decimal is the text
unfoldable pub decimal_value : ℕ → List ℕ → Option ℕ
decimal_value greatest [] = None
decimal_value greatest (b ∷ bs) = if has_leading_zero (b ∷ bs) then None else number_from greatest 0 (b ∷ bs)

-- The bytes that stand between the parts of a text, and the digits and letters that texts begin with.
use Rattle.std.specs.Prelude.{ℕ, ◌+◌}

-- the byte at the end of a line, LF
abbrev pub line_feed : ℕ
line_feed = 10

-- CR, which may stand before the LF of a line
abbrev pub carriage_return : ℕ
carriage_return = 13

-- a space
abbrev pub space : ℕ
space = 32

-- `!`
abbrev pub exclamation : ℕ
exclamation = 33

-- `#`
abbrev pub hash : ℕ
hash = 35

-- `,`
abbrev pub comma : ℕ
comma = 44

-- `-`
abbrev pub dash : ℕ
dash = 45

-- `.`
abbrev pub dot : ℕ
dot = 46

-- `/`
abbrev pub slash : ℕ
slash = 47

-- `0`, the least byte of a digit
abbrev pub digit_zero : ℕ
digit_zero = 48

-- `9`, the greatest byte of a digit
abbrev pub digit_nine : ℕ
digit_nine = 57

-- a number below ten as its digit
abbrev pub digit : ℕ → ℕ
digit n = digit_zero + n

-- `:`
abbrev pub colon : ℕ
colon = 58

-- `D`
abbrev pub capital_d : ℕ
capital_d = 68

-- `F`
abbrev pub capital_f : ℕ
capital_f = 70

-- `H`
abbrev pub capital_h : ℕ
capital_h = 72

-- `L`
abbrev pub capital_l : ℕ
capital_l = 76

-- `M`
abbrev pub capital_m : ℕ
capital_m = 77

-- `P`
abbrev pub capital_p : ℕ
capital_p = 80

-- `R`
abbrev pub capital_r : ℕ
capital_r = 82

-- `S`
abbrev pub capital_s : ℕ
capital_s = 83

-- `U`
abbrev pub capital_u : ℕ
capital_u = 85

-- `_`
abbrev pub underscore : ℕ
underscore = 95

-- `a`, the least byte of a small letter
abbrev pub letter_a : ℕ
letter_a = 97

-- `d`
abbrev pub letter_d : ℕ
letter_d = 100

-- `z`, the greatest byte of a small letter
abbrev pub letter_z : ℕ
letter_z = 122

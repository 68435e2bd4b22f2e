-- A text is cut at the first of a separator byte.
use Rattle.std.specs.Prelude.{◌≢◌, ℕ, List, length, Option, Some, None, if◌then◌else◌, ◌==◌, nat_lt}
use Rattle.std.specs.List.{AllByRecursion, position_or_len, before_first, after_first}

-- no byte of the text is c
abbrev pub Lacks : ℕ → List ℕ → Type 0
Lacks c bs = AllByRecursion (λ b. b ≢ c) bs

-- the bytes before the first c, or all of them where there is no c
abbrev pub before : ℕ → List ℕ → List ℕ
before c bs = before_first (λ b. b == c) bs

-- the bytes after the first c, where there is one
abbrev pub behind : ℕ → List ℕ → Option (List ℕ)
behind c bs =
    if nat_lt (position_or_len (λ b. b == c) bs) (length bs) then Some (after_first (λ b. b == c) bs) else None

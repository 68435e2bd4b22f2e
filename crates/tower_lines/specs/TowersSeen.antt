-- The towers seen along a line of numbers.
use Rattle.std.specs.Prelude.{ℕ, ◌+◌, List, [], ◌∷◌, ◌++◌, nat_lt, if◌then◌else◌}
use Rattle.std.specs.List.{list_all}

-- the towers seen along a line that goes on after the values `before`
abbrev pub seen_after : List ℕ → List ℕ → ℕ
seen_after before [] = 0
seen_after before (x ∷ xs) = (if list_all (λ y. nat_lt y x) before then 1 else 0) + seen_after (before ++ x ∷ []) xs

-- the number of places whose value is greater than every value before it
abbrev pub seen : List ℕ → ℕ
seen line = seen_after [] line

-- The items of a puzzle, which are numbered, when only some of them are kept.
use Rattle.std.specs.Prelude.{ℕ, ◌+◌, Bool, if◌then◌else◌, List, [], ◌∷◌}

-- a list whose entries are numbered from i on: those that are not to be kept become empty
abbrev pub kept_items : {X : Type 0} → X → (ℕ → Bool) → ℕ → List X → List X
kept_items empty keep i [] = []
kept_items empty keep i (x ∷ xs) = (if keep i then x else empty) ∷ kept_items empty keep (i + 1) xs

-- By which name the program answers in objects.
use Rattle.std.specs.Prelude.{◌≡◌, ◌⊎◌, ◌++◌, ℕ, List, [], ◌∷◌, codes, String, string_bytes}

-- what stands between the parts of a path
abbrev pub separator : ℕ
separator = 47

-- the path is the name in a folder, after its last `/`; a name has no `/` itself
abbrev pub IsInFolder : List ℕ → List ℕ → Type 0
IsInFolder name path = (folder : List ℕ) × (path ≡ folder ++ separator ∷ name)

-- the last part of the path is the name
abbrev pub IsLastPart : List ℕ → List ℕ → Type 0
IsLastPart name path = (path ≡ name) ⊎ IsInFolder name path

-- the last part of the path is `puzzles-json`
abbrev pub IsPuzzlesJson : List ℕ → Type 0
IsPuzzlesJson path = IsLastPart (codes "puzzles-json") path

-- the last part of the first word is `puzzles-json`
abbrev pub IsCalledPuzzlesJson : {A : Type 0} → List (String A) → Type 0
IsCalledPuzzlesJson [] = ⊥
IsCalledPuzzlesJson (first ∷ words) = IsPuzzlesJson (string_bytes first)

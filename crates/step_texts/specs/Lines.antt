-- Lines of text.
use Rattle.std.specs.Prelude.{◌≤◌, ℕ, List, All, length, map}
use Rattle.arrayvec.specs.ArrayVec.{ArrayVec}

-- the characters of a line
abbrev pub line_items : ArrayVec ℕ → List ℕ
line_items line = line.items

-- the characters of each line
abbrev pub line_texts : List (ArrayVec ℕ) → List (List ℕ)
line_texts lines = map line_items lines

-- no line is longer than a hundred characters
abbrev pub AreShort : List (List ℕ) → Type 0
AreShort lines = All (λ line. length line ≤ 100) lines

-- Texts of whole lines.
use Rattle.std.specs.Prelude.{◌≡◌, ◌⊎◌, ℕ, List, [], ◌∷◌, ◌++◌}
use Rattle.byte_text.specs.Bytes.{line_feed}

-- LF is the last of the bytes
abbrev pub EndsInLineFeed : List ℕ → Type 0
EndsInLineFeed bytes = (front : List ℕ) × (bytes ≡ front ++ line_feed ∷ [])

-- there is no byte, or LF is the last
abbrev pub AreWholeLines : List ℕ → Type 0
AreWholeLines bytes = (bytes ≡ []) ⊎ EndsInLineFeed bytes

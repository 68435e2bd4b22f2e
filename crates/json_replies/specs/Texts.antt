-- Bytes as texts of JSON.
use Rattle.std.specs.Prelude.{ℕ, ◌-◌, List, ◌∷◌, [], ◌++◌, length, take, map, encode_utf8_all}
use Rattle.std.specs.List.{flat_map}
use Rattle.serde_json.specs.Data.{Data, string, array}
use Rattle.serde_json.specs.View.{items_of}
use Rattle.byte_text.specs.Bytes.{line_feed}
use Rattle.line_replies.specs.Lines.{segments}

-- the text whose characters have the bytes as their codes
abbrev pub latin_text : List ℕ → List ℕ
latin_text bytes = encode_utf8_all bytes

-- some bytes as a string, each byte a letter
abbrev pub text_data : List ℕ → Data
text_data bytes = string (latin_text bytes)

-- the lines that LF ends, without it
abbrev pub lines_of : List ℕ → List (List ℕ)
lines_of bytes = take (length (segments bytes) - 1) (segments bytes)

-- the list of what f gives for each of the values
abbrev pub list_data : {A : Type 0} → (A → Data) → List A → Data
list_data f xs = array (items_of (map f xs))

-- the lines of a reply as a list of texts
abbrev pub lines_data : List ℕ → Data
lines_data reply = list_data text_data (lines_of reply)

-- the bytes of these lines, each with its LF
abbrev pub lines_text : List (List ℕ) → List ℕ
lines_text lines = flat_map (λ line. line ++ line_feed ∷ []) lines

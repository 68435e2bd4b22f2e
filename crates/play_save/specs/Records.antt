-- A record of a save file: the grammar, and reading the first record of a text.
use Rattle.std.specs.Prelude.{◌≡◌, ℕ, Bool, true, false, ◌==◌, ◌&&◌, ◌||◌, nat_le, if◌then◌else◌, List, [], ◌∷◌, ◌++◌}
use Rattle.std.specs.Prelude.{length, take, drop, Option, Some, None, option_and_then, option_map, Result, Ok, ok_or}
use Rattle.std.specs.List.{AllByRecursion}
use Rattle.byte_text.specs.Cuts.{Lacks, before, behind}
use Rattle.byte_text.specs.Decimals.{number_from}
use Rattle.play_save.specs.declared.fault.LoadFault.{LoadFault}
use Rattle.play_save.specs.declared.fault.LoadFault.TheVariants.{Malformed}
use Rattle.byte_text.specs.Bytes.{colon, line_feed, carriage_return, space}

-- the name of a key, without the blanks at its end, and the value
pub record Entry : Type 0 where
  pub key : List ℕ
  pub value : List ℕ

-- LF or CR
abbrev pub is_break : ℕ → Bool
is_break b = (b == line_feed) || (b == carriage_return)

-- whether the text begins with LF or CR
abbrev pub begins_with_break : List ℕ → Bool
begins_with_break [] = false
begins_with_break (b ∷ bs) = is_break b

-- nothing but LF and CR
abbrev pub AreBreaks : List ℕ → Type 0
AreBreaks bytes = AllByRecursion (λ b. is_break b ≡ true) bytes

-- whether the text is empty
abbrev pub is_empty : List ℕ → Bool
is_empty [] = true
is_empty (b ∷ bs) = false

-- a name without the blanks at its end
abbrev pub unpadded : List ℕ → List ℕ
unpadded [] = []
unpadded (b ∷ bs) = if (b == space) && is_empty (unpadded bs) then [] else (b ∷ unpadded bs)

-- 1 to 8 digits, leading zeros among them, and the number that they stand for
abbrev pub length_at : List ℕ → Option ℕ
length_at digits =
    if nat_le 1 (length digits) && nat_le (length digits) 8 then number_from 99999999 0 digits else None

-- The text is line breaks, a key of eight bytes, a colon, the length of the value, a colon, the value, and the rest.
pub record BeginsWith (e : Entry) (rest : List ℕ) (text : List ℕ) : Type 0 where
  pub breaks : List ℕ
  pub key : List ℕ
  pub digits : List ℕ
  pub spelled : text ≡ breaks ++ (key ++ (colon ∷ (digits ++ (colon ∷ (e.value ++ rest)))))
  pub are_breaks : AreBreaks breaks
  pub eight : length key ≡ 8
  pub no_colon : Lacks colon key
  pub no_break : begins_with_break key ≡ false
  pub name_is : e.key ≡ unpadded key
  pub length_is : length_at digits ≡ Some (length e.value)

-- the text without the line breaks in front
abbrev pub skip_breaks : List ℕ → List ℕ
skip_breaks [] = []
skip_breaks (b ∷ bs) = if is_break b then skip_breaks bs else (b ∷ bs)

-- what stands before the first colon and after it
abbrev pub field_at : List ℕ → Option (List ℕ × List ℕ)
field_at bytes = option_map (λ rest. (before colon bytes, rest)) (behind colon bytes)

-- the value of a length, and the rest
abbrev pub value_at : ℕ → List ℕ → Option (List ℕ × List ℕ)
value_at n bytes = if nat_le n (length bytes) then Some (take n bytes, drop n bytes) else None

-- the value after its length, and the rest
abbrev pub value_behind : List ℕ → Option (List ℕ × List ℕ)
value_behind bytes =
    option_and_then (λ field. option_and_then (λ n. value_at n field.1) (length_at field.0)) (field_at bytes)

-- a record of a key and of a value with the rest after it
abbrev pub record_of : List ℕ → List ℕ × List ℕ → Entry × List ℕ
record_of key parts = (record { key = unpadded key; value = parts.0 }, parts.1)

-- the record that begins with the key
unfoldable pub record_behind : List ℕ → Option (Entry × List ℕ)
record_behind bytes =
    option_and_then
    (λ field. if length field.0 == 8 then option_map (record_of field.0) (value_behind field.1) else None)
    (field_at bytes)

-- the first record and the rest of a text without line breaks in front, or nothing of an empty one
abbrev pub record_or_end : List ℕ → Result (Option (Entry × List ℕ)) LoadFault
record_or_end [] = Ok None
record_or_end (b ∷ bs) = ok_or (option_map Some (record_behind (b ∷ bs))) Malformed

-- the first record and the rest, nothing where only line breaks are left, or a fault
unfoldable pub record_at : List ℕ → Result (Option (Entry × List ℕ)) LoadFault
record_at bytes = record_or_end (skip_breaks bytes)

-- The line of an object.
use Rattle.std.specs.Prelude.{◌≡◌, ◌⊎◌, ℕ, zero, suc, false, List, [], ◌∷◌, ◌++◌, codes, Some}
use Rattle.serde_json.specs.Data.{Data, null, boolean, number, string, array, object, Items, no_items, item, Members, no_members, member}
use Rattle.serde_json.specs.Find.{is_float}
use Rattle.serde_json.specs.Read.{read}
use Rattle.serde_json.specs.Written.{compact_text}
use Rattle.byte_text.specs.Bytes.{line_feed}

abbrev mutual
  -- the data have no float, and are at most so deep
  pub IsShallow : ℕ → Data → Type 0
  IsShallow n null = Unit {0}
  IsShallow n (boolean b) = Unit {0}
  IsShallow n (number x) = is_float x ≡ false
  IsShallow n (string s) = Unit {0}
  IsShallow zero (array ds) = ⊥
  IsShallow (suc n) (array ds) = AreShallow n ds
  IsShallow zero (object ms) = ⊥
  IsShallow (suc n) (object ms) = MembersAreShallow n ms

  -- each of the items has no float, and is at most so deep
  pub AreShallow : ℕ → Items → Type 0
  AreShallow n no_items = Unit {0}
  AreShallow n (item d ds) = IsShallow n d × AreShallow n ds

  -- each of the members has no float, and is at most so deep
  pub MembersAreShallow : ℕ → Members → Type 0
  MembersAreShallow n no_members = Unit {0}
  MembersAreShallow n (member k d ms) = IsShallow n d × MembersAreShallow n ms

-- the bytes are the data's compact text and LF, and the text reads as the data
pub record IsLineOfData (d : Data) (bytes : List ℕ) : Type 0 where
  pub text : bytes ≡ compact_text d ++ line_feed ∷ []
  pub reads : read (compact_text d) ≡ Some d

-- what is said in place of an object that can't be made for want of memory
abbrev pub lost_line : List ℕ
lost_line = codes "{\"lost\":\"OutOfMemory\"}" ++ line_feed ∷ []

-- such bytes, or the line that tells that they were lost
abbrev pub OrLost : (List ℕ → Type 0) → List ℕ → Type 0
OrLost Told bytes = Told bytes ⊎ (bytes ≡ lost_line)

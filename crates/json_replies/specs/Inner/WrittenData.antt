-- Members, and data of which something holds, that are written token by token.
use Rattle.std.specs.Prelude.{◌≡◌, ℕ, ℤ, List, [], ◌∷◌, ◌++◌, codes, Option, Some, None}
use Rattle.std.specs.List.{flat_map}
use Rattle.std.specs.Option.{option_copied}
use Rattle.json.specs.Token.{Token, key}
use Rattle.json.specs.Tree.{json_tokens}
use Rattle.json.specs.Written.{Written}
use Rattle.serde_json.specs.Data.{Data, Members, member, no_members, null, number, string}
use Rattle.serde_json.specs.Find.{of_integer}
use Rattle.serde_json.specs.Read.{of_json}
use Rattle.serde_json.specs.Written.{outline}
use Rattle.json_replies.specs.declared.hint_text.Said.{Said}
use Rattle.json_replies.specs.Counts.{count_data}
use Rattle.json_replies.specs.HintObjects.{SaidData, start_word}
use Rattle.json_replies.specs.declared.start.Start.{Start}
use Rattle.json_replies.specs.WrittenData.{Follow}

-- a count, or null
abbrev pub count_or_null : Option ℕ → Data
count_or_null None = null
count_or_null (Some n) = count_data n

-- an integer, or null
abbrev pub integer_or_null : Option ℤ → Data
integer_or_null None = null
integer_or_null (Some n) = number (of_integer n)

-- a word, or null
abbrev pub word_or_null : Option (List ℕ) → Data
word_or_null None = null
word_or_null (Some word) = string word

-- some data of which this holds follow
abbrev pub FollowsWhere : (Data → Type 0) → Written → Written → Type 0
FollowsWhere Holds old new = (d : Data) × Holds d × Follow (d ∷ []) old new

-- a list of members as the members of an object
abbrev pub as_members : List (List ℕ × Data) → Members
as_members [] = no_members
as_members (m ∷ ms) = member m.0 m.1 (as_members ms)

-- the tokens of members
abbrev pub member_tokens : List (List ℕ × Data) → List Token
member_tokens ms = flat_map (λ m. key m.0 ∷ json_tokens (outline m.1)) ms

-- the data of each member read as themselves
abbrev pub AllMembersRead : List (List ℕ × Data) → Type 0
AllMembersRead [] = Unit {0}
AllMembersRead (m ∷ ms) = (of_json (outline m.1) ≡ Some m.1) × AllMembersRead ms

-- these members follow what was written
pub record MembersFollow (ms : List (List ℕ × Data)) (old new : Written) : Type 0 where
  pub stays : new.before ≡ old.before
  pub adds : new.tokens ≡ old.tokens ++ member_tokens ms
  pub reads : AllMembersRead ms

-- what a hint says, from the value of the code that has it
abbrev pub said_data : Said → SaidData
said_data s =
    record {
      by = word_or_null (option_copied s.by);
      cell = count_or_null s.cell;
      grade = word_or_null (option_copied s.grade);
      kind = s.kind.now;
      line = count_or_null s.line;
      name = word_or_null (option_copied s.name);
      number = count_or_null s.number;
    }

-- the first members of a hint
abbrev pub said_members : SaidData → Start → Data → List (List ℕ × Data)
said_members said start groups =
    (codes "by", said.by) ∷ (codes "cell", said.cell) ∷ (codes "from", string (start_word start))
    ∷ (codes "grade", said.grade) ∷ (codes "groups", groups) ∷ (codes "kind", string said.kind)
    ∷ (codes "line", said.line) ∷ (codes "name", said.name) ∷ (codes "number", said.number) ∷ []

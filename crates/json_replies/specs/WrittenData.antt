-- Data that are written token by token.
use Rattle.std.specs.Prelude.{◌≡◌, List, [], ◌∷◌, ◌++◌, Some}
use Rattle.std.specs.List.{flat_map}
use Rattle.json.specs.Token.{Token}
use Rattle.json.specs.Tree.{json_tokens}
use Rattle.json.specs.Written.{Written}
use Rattle.serde_json.specs.Data.{Data}
use Rattle.serde_json.specs.Read.{of_json}
use Rattle.serde_json.specs.Written.{outline}

-- the tokens of data, one after the other
abbrev pub data_tokens : List Data → List Token
data_tokens ds = flat_map (λ d. json_tokens (outline d)) ds

-- each of the data reads as itself
abbrev pub AllRead : List Data → Type 0
AllRead [] = Unit {0}
AllRead (d ∷ ds) = (of_json (outline d) ≡ Some d) × AllRead ds

-- these data follow what was written
pub record Follow (ds : List Data) (old new : Written) : Type 0 where
  pub stays : new.before ≡ old.before
  pub adds : new.tokens ≡ old.tokens ++ data_tokens ds
  pub reads : AllRead ds

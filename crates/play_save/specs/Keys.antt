-- The keys of records: their names, and what each is about.
use Rattle.std.specs.Prelude.{ℕ, ◌-◌, Bool, List, [], ◌∷◌, ◌++◌, length, replicate, codes, bytes_eq, Option}
use Rattle.std.specs.List.{find}
use Rattle.std.specs.Option.{unwrap_or}
use Rattle.play_midend.specs.declared.extras.Extras.{Extras}
use Rattle.play_save.specs.declared.key.StateKey.TheVariants.{AnyMove, SolveMove, RestartMove}
use Rattle.play_save.specs.declared.key.WhoseParams.TheVariants.{Next, Current}
use Rattle.play_save.specs.declared.key.KeptKey.{KeptKey}
use Rattle.play_save.specs.declared.key.KeptKey.TheVariants.{Seed, AuxInfo, Ui, Time}
use Rattle.play_save.specs.declared.key.WhichCount.TheVariants.{States, Position}
use Rattle.play_save.specs.declared.key.HeaderKey.{HeaderKey}
use Rattle.play_save.specs.declared.key.HeaderKey.TheVariants.{SaveFile, FormatVersion, Title, ParamsOf, Desc, PrivateDesc, Kept, Count}
use Rattle.play_save.specs.declared.key.Key.{Key}
use Rattle.play_save.specs.declared.key.Key.TheVariants.{Header, State, Other}
use Rattle.byte_text.specs.Bytes.{space}

-- the name of each key; any other name is nothing's
abbrev pub key_name : Key → List ℕ
key_name (Header SaveFile) = codes "SAVEFILE"
key_name (Header FormatVersion) = codes "VERSION"
key_name (Header Title) = codes "GAME"
key_name (Header (ParamsOf Next)) = codes "PARAMS"
key_name (Header (ParamsOf Current)) = codes "CPARAMS"
key_name (Header (Kept Seed)) = codes "SEED"
key_name (Header Desc) = codes "DESC"
key_name (Header PrivateDesc) = codes "PRIVDESC"
key_name (Header (Kept AuxInfo)) = codes "AUXINFO"
key_name (Header (Kept Ui)) = codes "UI"
key_name (Header (Kept Time)) = codes "TIME"
key_name (Header (Count States)) = codes "NSTATES"
key_name (Header (Count Position)) = codes "STATEPOS"
key_name (State AnyMove) = codes "MOVE"
key_name (State SolveMove) = codes "SOLVE"
key_name (State RestartMove) = codes "RESTART"
key_name Other = []

-- the keys that have a name, in the order in which a save has their records
abbrev pub keys : List Key
keys =
    Header SaveFile ∷ Header FormatVersion ∷ Header Title ∷ Header (ParamsOf Next) ∷ Header (ParamsOf Current)
    ∷ Header (Kept Seed)
    ∷ Header Desc ∷ Header PrivateDesc ∷ Header (Kept AuxInfo) ∷ Header (Kept Ui) ∷ Header (Kept Time)
    ∷ Header (Count States)
    ∷ Header (Count Position) ∷ State AnyMove ∷ State SolveMove ∷ State RestartMove ∷ []

-- the key that has the name
unfoldable pub key_of : List ℕ → Key
key_of name = unwrap_or (find (λ k. bytes_eq name (key_name k)) keys) Other

-- whether two headers are the same, which their names tell
abbrev pub same_header : HeaderKey → HeaderKey → Bool
same_header j k = bytes_eq (key_name (Header j)) (key_name (Header k))

-- a name with blanks up to the eight bytes of a key
abbrev pub padded : List ℕ → List ℕ
padded name = name ++ replicate (8 - length name) space

-- the value that is kept with a key
abbrev pub kept_at : Extras → KeptKey → Option (List ℕ)
kept_at extras Seed = extras.seed
kept_at extras AuxInfo = extras.auxinfo
kept_at extras Ui = extras.ui
kept_at extras Time = extras.time

-- the kept values, by their keys
abbrev pub each_kept : (KeptKey → Option (List ℕ)) → Extras
each_kept value = record { seed = value Seed; auxinfo = value AuxInfo; ui = value Ui; time = value Time }

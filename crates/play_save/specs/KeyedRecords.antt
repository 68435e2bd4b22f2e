-- Lists of records, each seen by what its key is about: which value stands how often with which key.
use Rattle.std.specs.Prelude.{◌≡◌, ℕ, Bool, true, false, if◌then◌else◌, List, [], ◌∷◌, Option, Some, None}
use Rattle.play_save.specs.declared.key.StateKey.{StateKey}
use Rattle.play_save.specs.declared.key.WhichCount.{WhichCount}
use Rattle.play_save.specs.declared.key.HeaderKey.{HeaderKey}
use Rattle.play_save.specs.declared.key.HeaderKey.TheVariants.{Count}
use Rattle.play_save.specs.declared.key.Key.{Key}
use Rattle.play_save.specs.declared.key.Key.TheVariants.{Header, State}
use Rattle.play_save.specs.Records.{Entry, BeginsWith}
use Rattle.play_save.specs.Keys.{key_of, same_header}

-- a record by what its key is about
pub record KeyedRecord : Type 0 where
  pub key : Key
  pub value : List ℕ

-- an entry as a record, by what its key is about
abbrev pub keyed : Entry → KeyedRecord
keyed e = record { key = key_of e.key; value = e.value }

-- a state record
pub record KeyedState : Type 0 where
  pub key : StateKey
  pub value : List ℕ

-- The text is these records and then anything.
abbrev pub BeginsWithAll : List KeyedRecord → List ℕ → Type 0
BeginsWithAll [] text = Unit {0}
BeginsWithAll (r ∷ rs) text =
    (e : Entry) × (rest : List ℕ) × (keyed e ≡ r) × BeginsWith e rest text × BeginsWithAll rs rest

-- the values of a header, with one more in front if the record is of this header
abbrev pub onto_values : HeaderKey → Key → List ℕ → List (List ℕ) → List (List ℕ)
onto_values k (Header j) value values = if same_header j k then (value ∷ values) else values
onto_values k _ value values = values

-- the values that a header has in some records, in turn
abbrev pub values_of : HeaderKey → List KeyedRecord → List (List ℕ)
values_of k [] = []
values_of k (r ∷ rs) = onto_values k r.key r.value (values_of k rs)

-- the state records, with one more in front if the record is a state's
abbrev pub onto_states : Key → List ℕ → List KeyedState → List KeyedState
onto_states (State k) value states = record { key = k; value = value } ∷ states
onto_states _ value states = states

-- the state records among some records, in turn
abbrev pub states_in : List KeyedRecord → List KeyedState
states_in [] = []
states_in (r ∷ rs) = onto_states r.key r.value (states_in rs)

-- there is one value, and P holds of it
pub record IsOne (P : List ℕ → Type 0) (values : List (List ℕ)) : Type 0 where
  pub value : List ℕ
  pub alone : values ≡ value ∷ []
  pub holds : P value

-- the values that stand for kept bytes: these bytes once, or nothing if none are kept
abbrev pub once_if_kept : Option (List ℕ) → List (List ℕ)
once_if_kept None = []
once_if_kept (Some value) = value ∷ []

-- whether the key is a state's
abbrev pub is_state : Key → Bool
is_state (State k) = true
is_state _ = false

-- after a state record neither count follows
abbrev pub CountsStandFirst : List KeyedRecord → Type 0
CountsStandFirst [] = Unit {0}
CountsStandFirst (r ∷ rs) =
    (is_state r.key ≡ true → (which : WhichCount) → values_of (Count which) rs ≡ []) × CountsStandFirst rs

-- whether a record with this key may be the last: a state record or a count
abbrev pub may_be_last : Key → Bool
may_be_last (State k) = true
may_be_last (Header (Count which)) = true
may_be_last _ = false

-- the last record is a state record or a count
abbrev pub EndsWithState : List KeyedRecord → Type 0
EndsWithState [] = ⊥
EndsWithState (r ∷ []) = may_be_last r.key ≡ true
EndsWithState (r ∷ m ∷ rs) = EndsWithState (m ∷ rs)

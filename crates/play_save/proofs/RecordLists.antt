-- Lists of records: the values of a key, and the state records, along a list that is put together.
use Rattle.std.proofs.Common.{arith}
use Rattle.std.proofs.lemmas.Bool.Decides.{nat_tests}
use Rattle.std.proofs.Common.{◌≡◌, ℕ, false, List, [], ◌∷◌, ◌++◌, Option, is_some, refl, ap, ◌∙◌}
use Rattle.play_midend.specs.declared.extras.Extras.{Extras}
use Rattle.play_save.specs.declared.key.KeptKey.{KeptKey}
use Rattle.play_save.specs.declared.key.KeptKey.TheVariants.{Seed, AuxInfo, Ui, Time}
use Rattle.play_save.specs.declared.key.HeaderKey.{HeaderKey}
use Rattle.play_save.specs.declared.key.Key.{Key}
use Rattle.play_save.specs.declared.key.Key.TheVariants.{Header, State}
use Rattle.play_save.specs.Keys.{kept_at, each_kept}
use Rattle.play_save.specs.KeyedRecords.{KeyedRecord, KeyedState, onto_values, values_of, onto_states, states_in}
use Rattle.play_save.specs.FirstFaults.{first_of}
use Rattle.play_save.proofs.KeyLaws.{own_key}

-- of values that are kept by their keys, each stands at its key
pub kept_each : (value : KeptKey → Option (List ℕ)) (k : KeptKey) → kept_at (each_kept value) k ≡ value k
kept_each value Seed = refl
kept_each value k = refl

-- kept values that are the same by each key are the same
pub same_extras : (a b : Extras) → ((k : KeptKey) → kept_at a k ≡ kept_at b k) → a ≡ b
same_extras a b same =
    let seed = same Seed in
    let auxinfo = same AuxInfo in
    let ui = same Ui in
    let time = same Time in
    let one : Extras = record a { seed = a.seed } in
    let other : Extras = record b { seed = b.seed } in
    let whole : one ≡ other = cc in
    whole

-- a value in front of two lists, one after the other, is in front of the first
onto_values-append : (k : HeaderKey) (key : Key) (value : List ℕ) (xs ys : List (List ℕ))
    → onto_values k key value (xs ++ ys) ≡ onto_values k key value xs ++ ys
onto_values-append k key value xs ys = grind (arith, nat_tests)

-- the values in two lists of records, one after the other
pub values_of-append : (k : HeaderKey) (xs ys : List KeyedRecord)
    → values_of k (xs ++ ys) ≡ values_of k xs ++ values_of k ys
values_of-append k [] ys = refl
values_of-append k (x ∷ xs) ys =
    ap (onto_values k x.key x.value) (values_of-append k xs ys)
    ∙ onto_values-append k x.key x.value (values_of k xs) (values_of k ys)

onto_states-append : (k : Key) (value : List ℕ) (xs ys : List KeyedState)
    → onto_states k value (xs ++ ys) ≡ onto_states k value xs ++ ys
onto_states-append (State k) value xs ys = refl
onto_states-append k value xs ys = refl

-- the state records in two lists of records, one after the other
pub states_in-append : (xs ys : List KeyedRecord) → states_in (xs ++ ys) ≡ states_in xs ++ states_in ys
states_in-append [] ys = refl
states_in-append (x ∷ xs) ys =
    ap (onto_states x.key x.value) (states_in-append xs ys)
    ∙ onto_states-append x.key x.value (states_in xs) (states_in ys)

-- the list of one record
abbrev pub one : Key → List ℕ → List KeyedRecord
one k value = record { key = k; value = value } ∷ []

pub values_at : (k : HeaderKey) (value : List ℕ) (before later : List KeyedRecord)
    → values_of k (before ++ (one (Header k) value ++ later)) ≡ values_of k before ++ (value ∷ values_of k later)
values_at k value before later = values_of-append k before (one (Header k) value ++ later) ∙ rw (own_key k) refl

pub append_none : {A : Type 0} (xs ys : List A) → xs ++ ys ≡ [] → (xs ≡ []) × (ys ≡ [])
append_none [] ys none = (refl, none)
append_none (x ∷ xs) ys none = cc

-- if there is no first value, there is none
pub no_first : {A : Type 0} (xs : List A) → is_some (first_of xs) ≡ false → xs ≡ []
no_first [] none = refl
no_first (x ∷ xs) none = cc

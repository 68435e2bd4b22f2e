-- The records that are written for a session: which value stands with which key, and where.
use Rattle.std.proofs.Common.{arith}
use Rattle.std.proofs.lemmas.Bool.Decides.{nat_tests}
use Rattle.std.proofs.Common.{◌≡◌, ℕ, true, List, [], ◌∷◌, ◌++◌, drop, take, map, Option, Some, None, cond, refl, ap, ◌∙◌}
use Rattle.std.specs.Fmt.{decimal}
use Rattle.std.specs.List.{flat_map}
use Rattle.std.proofs.lemmas.Bool.{cond_both}
use Rattle.std.proofs.lemmas.Grind.{flat_map-append}
use Rattle.std.proofs.lemmas.List.{append-nil, append_assoc}
use Rattle.play_midend.specs.declared.moves.Move.{Move}
use Rattle.play_midend.specs.Histories.{History}
use Rattle.play_save.specs.declared.key.WhichCount.TheVariants.{Position}
use Rattle.play_save.specs.declared.key.HeaderKey.{HeaderKey}
use Rattle.play_save.specs.declared.key.HeaderKey.TheVariants.{SaveFile, Count}
use Rattle.play_save.specs.declared.key.Key.{Key}
use Rattle.play_save.specs.declared.key.Key.TheVariants.{Header}
use Rattle.play_save.specs.Keys.{keys, same_header}
use Rattle.play_save.specs.KeyedRecords.{KeyedRecord, values_of, states_in, once_if_kept, CountsStandFirst, may_be_last, EndsWithState}
use Rattle.play_save.specs.Written.{value_written, header_records, key_records, with_value, state_value, state_record}
use Rattle.play_save.proofs.RecordLists.{values_of-append}
use Rattle.play_save.proofs.WrittenRecords.{AreKnown}

-- the records after the first
abbrev pub tail_records : {P : Type 0} → List ℕ → List ℕ → History P → List KeyedRecord
tail_records title desc h = flat_map (key_records title desc h) (drop 1 keys) ++ map (state_record desc) h.moves

-- the state records of some moves
abbrev states_of : List ℕ → List Move → List KeyedRecord
states_of desc ms = map (state_record desc) ms

-- state records have no value of a header
states_none : (k : HeaderKey) (desc : List ℕ) (ms : List Move) → values_of k (states_of desc ms) ≡ []
states_none k desc [] = refl
states_none k desc (m ∷ ms) = states_none k desc ms

-- a value that is written stands with its own header, and with no other
own_values : (k j : HeaderKey) (value : Option (List ℕ))
    → values_of k (header_records j value) ≡ cond (same_header j k) (once_if_kept value) []
own_values k j None = cond_both (same_header j k) [] [] (λ (values : List (List ℕ)). [] ≡ values) (λ is. refl) (λ is. refl)
own_values k j (Some v) = refl

-- the values that are written with a header after the first record
abbrev pub values_behind : {P : Type 0} → List ℕ → List ℕ → History P → HeaderKey → List (List ℕ)
values_behind title desc h SaveFile = []
values_behind title desc h k = once_if_kept (value_written title desc h k)

-- the values of the header k among those written with a key: none, unless the key is that header
abbrev values_if : {P : Type 0} → List ℕ → List ℕ → History P → HeaderKey → Key → List (List ℕ)
values_if title desc h k (Header j) = cond (same_header j k) (once_if_kept (value_written title desc h j)) []
values_if title desc h k _ = []

values_flat : {P : Type 0} (title desc : List ℕ) (h : History P) (k : HeaderKey) (ks : List Key)
    → values_of k (flat_map (key_records title desc h) ks) ≡ flat_map (values_if title desc h k) ks
values_flat title desc h k [] = refl
values_flat title desc h k (Header j ∷ ks) =
    values_of-append k (header_records j (value_written title desc h j)) (flat_map (key_records title desc h) ks)
    ∙ (ap (λ vs. vs ++ values_of k (flat_map (key_records title desc h) ks)) (own_values k j (value_written title desc h j))
    ∙ ap (λ vs. values_if title desc h k (Header j) ++ vs) (values_flat title desc h k ks))
values_flat title desc h k (j ∷ ks) = values_flat title desc h k ks

-- the values that a header has in the records after the first are those that are written with it
pub values_tail : {P : Type 0} (title desc : List ℕ) (h : History P) (k : HeaderKey)
    → values_of k (tail_records title desc h) ≡ values_behind title desc h k
values_tail title desc h k = grind (arith, nat_tests, values_of-append, states_none, append-nil, values_flat)

-- what holds of the state records, and also with one more header in front, holds of all records
headers_in_front : {P : Type 0} (title desc : List ℕ) (h : History P) (Q : List KeyedRecord → Type 0) (rest : List KeyedRecord)
    → ((j : HeaderKey) (v : List ℕ) (rs : List KeyedRecord) → Q rs → Q (with_value (Header j) v ∷ rs))
    → Q rest → (ks : List Key) → Q (flat_map (key_records title desc h) ks ++ rest)
headers_in_front title desc h Q rest more base [] = base
headers_in_front {P} title desc h Q rest more base (Header j ∷ ks) =
    of_value (value_written title desc h j) (flat_map (key_records title desc h) ks) (headers_in_front title desc h Q rest more base ks)
  where
    of_value : (value : Option (List ℕ)) (rs : List KeyedRecord) → Q (rs ++ rest) → Q ((header_records j value ++ rs) ++ rest)
    of_value None rs q = q
    of_value (Some v) rs q = more j v (rs ++ rest) q
headers_in_front title desc h Q rest more base (k ∷ ks) = headers_in_front title desc h Q rest more base ks

-- the records that are written have known keys
pub known_tail : {P : Type 0} (title desc : List ℕ) (h : History P) → AreKnown (tail_records title desc h)
known_tail title desc h =
    headers_in_front title desc h AreKnown (states_of desc h.moves) (λ j v rs known. (refl, known)) (states h.moves) (drop 1 keys)
  where
    states : (ms : List Move) → AreKnown (states_of desc ms)
    states [] = tt
    states (m ∷ ms) = (refl, states ms)

-- the state records are those of the moves
pub states_tail : {P : Type 0} (title desc : List ℕ) (h : History P)
    → states_in (tail_records title desc h) ≡ map (state_value desc) h.moves
states_tail title desc h =
    headers_in_front title desc h (λ rs. states_in rs ≡ map (state_value desc) h.moves) (states_of desc h.moves) (λ j v rs is. is)
    (states h.moves) (drop 1 keys)
  where
    states : (ms : List Move) → states_in (states_of desc ms) ≡ map (state_value desc) ms
    states [] = refl
    states (m ∷ ms) = ap (λ ss. state_value desc m ∷ ss) (states ms)

-- the counts come before the states
pub counts_first_tail : {P : Type 0} (title desc : List ℕ) (h : History P) → CountsStandFirst (tail_records title desc h)
counts_first_tail title desc h =
    headers_in_front title desc h CountsStandFirst (states_of desc h.moves) (λ j v rs first. ((λ state. cc), first))
    (states h.moves) (drop 1 keys)
  where
    states : (ms : List Move) → CountsStandFirst (states_of desc ms)
    states [] = tt
    states (m ∷ ms) = ((λ state which. states_none (Count which) desc ms), states ms)

-- a state or a count is the last
pub ends_tail : {P : Type 0} (title desc : List ℕ) (h : History P) → EndsWithState (tail_records title desc h)
ends_tail title desc h =
    let records = key_records title desc h in
    let front = take 11 (drop 1 keys) in
    let last = with_value (Header (Count Position)) (decimal h.position) in
    let split : tail_records title desc h ≡ flat_map records front ++ (last ∷ states_of desc h.moves) =
    ap (λ rs. rs ++ states_of desc h.moves) (flat_map-append records front (drop 12 keys))
    ∙ append_assoc (flat_map records front) (last ∷ []) (states_of desc h.moves) in
    rw split (headers_in_front title desc h EndsWithState (last ∷ states_of desc h.moves) more (states last h.moves refl) front)
  where
    more : (j : HeaderKey) (v : List ℕ) (rs : List KeyedRecord) → EndsWithState rs → EndsWithState (with_value (Header j) v ∷ rs)
    more j v [] ends = absurd ends
    more j v (r ∷ rs) ends = ends

    states : (r : KeyedRecord) (ms : List Move) → may_be_last r.key ≡ true → EndsWithState (r ∷ states_of desc ms)
    states r [] last = last
    states r (m ∷ ms) last = states (state_record desc m) ms refl

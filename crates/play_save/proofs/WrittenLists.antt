-- The texts that are written of lists of records that are put together.
use Rattle.std.proofs.Common.{◌≡◌, ℕ, ◌+◌, ◌<◌, List, [], ◌∷◌, ◌++◌, length, take, map, get_or, slice_get, Some}
use Rattle.std.specs.List.{flat_map}
use Rattle.std.proofs.lemmas.Grind.{flat_map-append}
use Rattle.std.proofs.lemmas.List.{append-nil, append_assoc, take_more, map_more}
use Rattle.std.proofs.lemmas.Option.{get_or_from_slice_get}
use Rattle.play_midend.specs.declared.moves.Move.{Move}
use Rattle.play_save.specs.declared.key.Key.{Key}
use Rattle.play_save.specs.KeyedRecords.{KeyedRecord}
use Rattle.play_save.specs.Written.{record_text, records_text, state_record}

-- records after others are written after them
pub records_text-append : (xs ys : List KeyedRecord) → records_text (xs ++ ys) ≡ records_text xs ++ records_text ys
records_text-append xs ys = flat_map-append record_text xs ys

-- one more key: its records are written after those of the keys before it
pub key_more : (records : Key → List KeyedRecord) (ks : List Key) (i : ℕ) (d : Key) (front old new : List ℕ) → i < length ks
    → old ≡ front ++ records_text (flat_map records (take i ks)) → new ≡ old ++ records_text (records (get_or ks i d))
    → new ≡ front ++ records_text (flat_map records (take (i + 1) ks))
key_more records ks i d front old new inside before here =
    let one = flat_map-append records (take i ks) (get_or ks i d ∷ []) in
    let all = records_text-append (flat_map records (take i ks)) (records (get_or ks i d)) in
    rw (here, before, take_more ks i d inside, one, append-nil (records (get_or ks i d)), all)
    (append_assoc front (records_text (flat_map records (take i ks))) (records_text (records (get_or ks i d))))

-- one more move: its state record is written after those of the moves before it
pub state_more : (desc : List ℕ) (ms : List Move) (i : ℕ) (m : Move) → i < length ms → slice_get ms i ≡ Some m
    → records_text (map (state_record desc) (take i ms)) ++ record_text (state_record desc m)
    ≡ records_text (map (state_record desc) (take (i + 1) ms))
state_more desc ms i m inside is =
    let last : get_or ms i m ≡ m = get_or_from_slice_get ms i m m is in
    rw (map_more (state_record desc) ms i m inside, last) (simp (flat_map-append, append-nil))

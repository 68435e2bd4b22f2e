-- A record that is written is read, and so is a list of them up to its end.
use Rattle.std.proofs.lemmas.Bool.Decides.{nat_tests}
use Rattle.std.proofs.Common.{◌≡◌, ℕ, ◌<◌, ◌≤◌, ◌^◌, lit<, Bool, true, false, cond, List, [], ◌∷◌, ◌++◌, length, Some, refl, sym, ap, ◌∙◌, subst, arith, length-append, append_assoc}
use Rattle.std.specs.Fmt.{decimal}
use Rattle.std.proofs.lemmas.Fmt.{decimal_nonempty, length-decimal-le}
use Rattle.std.proofs.lemmas.Bool.{le-leb}
use Rattle.std.proofs.lemmas.Option.{some_pair_parts}
use Rattle.byte_text.specs.Bytes.{line_feed}
use Rattle.byte_text.proofs.DecimalLaws.{digits_again}
use Rattle.play_save.specs.declared.save_format.TheConstants.{MOST_BYTES}
use Rattle.play_save.specs.declared.key.HeaderKey.{HeaderKey}
use Rattle.play_save.specs.declared.key.Key.{Key}
use Rattle.play_save.specs.declared.key.Key.TheVariants.{Header}
use Rattle.play_save.specs.Records.{Entry, AreBreaks, length_at, BeginsWith}
use Rattle.play_save.specs.Keys.{key_name, padded, same_header}
use Rattle.play_save.specs.KeyedRecords.{KeyedRecord, keyed, BeginsWithAll, onto_values, values_of}
use Rattle.play_save.specs.Written.{record_text, records_text}
use Rattle.play_save.proofs.KeyLaws.{is_known, free_lacks, is_key}
use Rattle.play_save.proofs.RecordLaws.{record_again}

-- the decimal of a value's length is read as this length
length_written : (n : ℕ) → n ≤ 99999999 → length_at (decimal n) ≡ Some n
length_written n few =
    let fits : n < 2 ^ 64 = omega (arith, few, big) in
    let some = decimal_nonempty n fits in
    let short = length-decimal-le 8 n (lit< tt) (omega (arith, few)) fits in
    let read = digits_again 99999999 n few (lit< tt) in
    rw (le-leb 1 (length (decimal n)) some, le-leb (length (decimal n)) 8 short) read
  where
    big : 99999999 < 2 ^ 64
    big = lit< tt

-- the record that is read of a written one
abbrev pub entry_written : KeyedRecord → Entry
entry_written r = record { key = key_name r.key; value = r.value }

-- the text of a record, after line breaks, begins with that record
pub written_begins : (r : KeyedRecord) (breaks more : List ℕ)
    → AreBreaks breaks → is_known r.key ≡ true → length r.value ≤ 99999999
    → BeginsWith (entry_written r) (line_feed ∷ more) (breaks ++ (record_text r ++ more))
unfolding record_text
written_begins r breaks more are known few =
    let own = is_key r.key known in
    let key = padded (key_name r.key) in
    let size = decimal (length r.value) in
    record {
      breaks = breaks;
      key = key;
      digits = size;
      spelled = simp append_assoc;
      are_breaks = are;
      eight = own.eight;
      no_colon = free_lacks key own.colon_free;
      no_break = own.no_break;
      name_is = own.name_again;
      length_is = length_written (length r.value) few;
    }

-- the records have known keys
abbrev pub AreKnown : List KeyedRecord → Type 0
AreKnown [] = Unit {0}
AreKnown (r ∷ rs) = (is_known r.key ≡ true) × AreKnown rs

value_within : (r : KeyedRecord) → length r.value ≤ length (record_text r)
unfolding record_text
value_within r = grind (arith, nat_tests, length-append)

own_record : (r : KeyedRecord) → is_known r.key ≡ true → keyed (entry_written r) ≡ r
own_record r known =
    let key = (is_key r.key known).key_again in
    let own : KeyedRecord = record r { key = r.key } in
    let same : keyed (entry_written r) ≡ own = cc in
    same

pub all_written : (rs : List KeyedRecord) (breaks : List ℕ)
    → AreBreaks breaks → AreKnown rs → length (records_text rs) ≤ MOST_BYTES
    → BeginsWithAll rs (breaks ++ records_text rs)
all_written [] breaks are known small = tt
all_written (r ∷ rs) breaks are known small =
    let split = length-append (record_text r) (records_text rs) in
    let few : length r.value ≤ 99999999 = omega (arith, value_within r, split) in (
      entry_written r,
      line_feed ∷ records_text rs,
      own_record r known.0,
      written_begins r breaks (records_text rs) are known.0 few,
      all_written rs (line_feed ∷ []) (refl, tt) known.1 (omega (arith, split)),
    )

-- a value that stands alone in two lists of records with which a text begins is the same, since one list begins the other
pub same_alone : (k : HeaderKey) (v w : List ℕ) (rs ms : List KeyedRecord) (text : List ℕ)
    → BeginsWithAll rs text → BeginsWithAll ms text → values_of k rs ≡ v ∷ [] → values_of k ms ≡ w ∷ [] → v ≡ w
same_alone k v w [] ms text begins other one own = cc
same_alone k v w (r ∷ rs) [] text begins other one own = cc
same_alone k v w (r ∷ rs) (m ∷ ms) text (entry, rest, keyed_is, begins, more) (own, own_rest, own_is, own_begins, own_more) one other =
    let read = record_again text entry rest begins in
    let own_read = record_again text own own_rest own_begins in
    let both = some_pair_parts entry own rest own_rest (cc) in
    let same : m ≡ r = sym own_is ∙ (ap keyed (sym both.0) ∙ keyed_is) in
    by_key r.key r.value one (subst (λ (x : KeyedRecord). onto_values k x.key x.value (values_of k ms) ≡ w ∷ []) same other)
    (same_alone k v w rs ms own_rest (subst (λ t. BeginsWithAll rs t) both.1 more) own_more)
  where
    by_name : (own : Bool) (value : List ℕ) → cond own (value ∷ values_of k rs) (values_of k rs) ≡ v ∷ []
        → cond own (value ∷ values_of k ms) (values_of k ms) ≡ w ∷ []
        → (values_of k rs ≡ v ∷ [] → values_of k ms ≡ w ∷ [] → v ≡ w) → v ≡ w
    by_name true value one other along = cc
    by_name false value one other along = along one other

    by_key : (key : Key) (value : List ℕ)
        → onto_values k key value (values_of k rs) ≡ v ∷ [] → onto_values k key value (values_of k ms) ≡ w ∷ []
        → (values_of k rs ≡ v ∷ [] → values_of k ms ≡ w ∷ [] → v ≡ w) → v ≡ w
    by_key (Header j) value one other along = by_name (same_header j k) value one other along
    by_key key value one other along = along one other

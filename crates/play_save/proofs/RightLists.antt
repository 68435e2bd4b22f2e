-- Lists of records without a fault: they are what is read up to the last record that is needed.
use Rattle.std.proofs.Common.{◌≡◌, ℕ, zero, suc, ◌<◌, ◌≤◌, Bool, true, false, cond, List, [], ◌∷◌, ◌++◌, length, Option, Some, None, Result, Ok, Err, refl, sym, ap, ◌∙◌, subst, arith, length-append}
use Rattle.std.proofs.lemmas.Bool.{cond_both}
use Rattle.std.proofs.lemmas.List.{append-nil, append_assoc}
use Rattle.play_save.specs.declared.fault.LoadFault.{LoadFault}
use Rattle.play_save.specs.declared.fault.LoadFault.TheVariants.{Malformed, Missing}
use Rattle.play_save.specs.declared.key.HeaderKey.{HeaderKey}
use Rattle.play_save.specs.declared.key.Key.{Key}
use Rattle.play_save.specs.declared.key.Key.TheVariants.{Header}
use Rattle.play_save.specs.Records.{Entry, record_at}
use Rattle.play_save.specs.Keys.{same_header}
use Rattle.play_save.specs.KeyedRecords.{KeyedRecord, BeginsWithAll, onto_values, values_of}
use Rattle.play_save.specs.SaveTexts.{SavedGame}
use Rattle.play_save.specs.FirstFaults.{met, value_fault, fault_by, is_complete, Listing, nothing, broken, first, listed, listing_within, records_of, unless, needed}
use Rattle.play_midend.proofs.OptionSteps.{ok_where}
use Rattle.play_save.proofs.RecordLaws.{record_taken, record_again, record_shorter}
use Rattle.play_save.proofs.KeyLaws.{same_key}
use Rattle.play_save.proofs.RecordLists.{values_of-append}
use Rattle.play_save.proofs.Meeting.{first_faultless}

-- after what stands before, no record has a fault, and the last is the first that completes them
abbrev pub AreRight : {P : Type 0} → SavedGame P → List KeyedRecord → List KeyedRecord → Type 0
AreRight game before [] = is_complete (met before) ≡ true
AreRight game before (r ∷ rs) =
    (is_complete (met before) ≡ false) × (fault_by game (met before) r.key r.value ≡ None)
    × AreRight game (before ++ r ∷ []) rs

-- the listing begins with these records
abbrev pub Follow : List KeyedRecord → Listing → Type 0
Follow [] listing = Unit {0}
Follow (r ∷ rs) nothing = ⊥
Follow (r ∷ rs) broken = ⊥
Follow (r ∷ rs) (first m more) = (r ≡ m) × Follow rs more

-- all records that are needed: those before, and more from the listing
pub record IsNeeded {P : Type 0} (game : SavedGame P) (before : List KeyedRecord) (listing : Listing) (all : List KeyedRecord)
    : Type 0 where
  pub more : List KeyedRecord
  pub all_is : all ≡ before ++ more
  pub right : AreRight game before more
  pub follow : Follow more listing

-- if the records before a place are complete, they are all that is needed
done_needed : {P : Type 0} (game : SavedGame P) (before all : List KeyedRecord) (listing : Listing)
    → is_complete (met before) ≡ true → before ≡ all → IsNeeded game before listing all
done_needed game before all listing done same =
    record { more = []; all_is = sym same ∙ sym (append-nil before); right = done; follow = tt }

-- what is needed of a listing begins it, and is right
pub needed_taken : {P : Type 0} (game : SavedGame P) (before : List KeyedRecord) (listing : Listing) (all : List KeyedRecord)
    → needed game before listing ≡ Ok all → IsNeeded game before listing all
needed_taken game before nothing all is =
    let done = ok_where (is_complete (met before)) before Missing all is in
    done_needed game before all nothing done.0 done.1
needed_taken game before broken all is =
    let done = ok_where (is_complete (met before)) before Malformed all is in
    done_needed game before all broken done.0 done.1
needed_taken game before (first r more) all is =
    cond_both (is_complete (met before)) _ _
    (λ (x : Result (List KeyedRecord) LoadFault). x ≡ Ok all → IsNeeded game before (first r more) all)
    (λ done e. done_needed game before all (first r more) done (cc))
    (λ undone e. taken (needed_taken game (before ++ r ∷ []) more all) undone _ refl e)
    is
  where
    taken : (needed game (before ++ r ∷ []) more ≡ Ok all → IsNeeded game (before ++ r ∷ []) more all)
        → is_complete (met before) ≡ false
        → (fault : Option LoadFault) → fault_by game (met before) r.key r.value ≡ fault
        → unless fault (needed game (before ++ r ∷ []) more) ≡ Ok all → IsNeeded game before (first r more) all
    taken along undone (Some fault) has e = cc
    taken along undone None has e =
        let rest = along e in
        record {
          more = r ∷ rest.more;
          all_is = rest.all_is ∙ append_assoc before (r ∷ []) rest.more;
          right = (undone, has, rest.right);
          follow = (refl, rest.follow);
        }

-- what begins a listing and is right is what is needed of it
pub needed_again : {P : Type 0} (game : SavedGame P) (before rs : List KeyedRecord) (listing : Listing)
    → AreRight game before rs → Follow rs listing → needed game before listing ≡ Ok (before ++ rs)
needed_again game before [] nothing right follow = rw right (ap Ok (sym (append-nil before)))
needed_again game before [] broken right follow = rw right (ap Ok (sym (append-nil before)))
needed_again game before [] (first m more) right follow = rw right (ap Ok (sym (append-nil before)))
needed_again game before (r ∷ rs) nothing right follow = absurd follow
needed_again game before (r ∷ rs) broken right follow = absurd follow
needed_again game before (r ∷ rs) (first m more) (undone, faultless, right) (same, follow) =
    let rest = needed_again game (before ++ r ∷ []) rs more right follow in
    subst (λ (x : KeyedRecord). needed game before (first x more) ≡ Ok (before ++ r ∷ rs)) same
    (rw (undone, faultless) (rest ∙ ap Ok (append_assoc before (r ∷ []) rs)))

-- records with which the listing of a text begins are records with which the text begins
follows_taken : (n : ℕ) (rs : List KeyedRecord) (text : List ℕ)
    → Follow rs (listing_within n text) → BeginsWithAll rs text
unfolding listing_within
follows_taken n [] text follow = tt
follows_taken zero (r ∷ rs) text follow = absurd follow
follows_taken (suc n) (r ∷ rs) text follow = at_record (λ rest. follows_taken n rs rest) (record_at text) refl follow
  where
    at_record : ((rest : List ℕ) → Follow rs (listing_within n rest) → BeginsWithAll rs rest)
        → (read : Result (Option (Entry × List ℕ)) LoadFault) → record_at text ≡ read
        → Follow (r ∷ rs) (listed (listing_within n) read) → BeginsWithAll (r ∷ rs) text
    at_record along (Err fault) is f = absurd f
    at_record along (Ok None) is f = absurd f
    at_record along (Ok (Some parts)) is f =
        (parts.0, parts.1, sym f.0, record_taken text parts.0 parts.1 is, along parts.1 f.1)

pub records_taken : (rs : List KeyedRecord) (text : List ℕ) → Follow rs (records_of text) → BeginsWithAll rs text
unfolding records_of
records_taken rs text follow = follows_taken (length text) rs text follow

follows_again : (n : ℕ) (rs : List KeyedRecord) (text : List ℕ)
    → length text ≤ n → BeginsWithAll rs text → Follow rs (listing_within n text)
unfolding listing_within
follows_again n [] text within begins = tt
follows_again zero (r ∷ rs) text within (entry, rest, keyed_is, begins, more) =
    let shorter = record_shorter text entry rest (record_again text entry rest begins) in absurd (omega arith)
follows_again (suc n) (r ∷ rs) text within (entry, rest, keyed_is, begins, more) =
    let read = record_again text entry rest begins in
    let shorter = record_shorter text entry rest read in
    subst (λ (x : Result (Option (Entry × List ℕ)) LoadFault). Follow (r ∷ rs) (listed (listing_within n) x)) (sym read)
    (sym keyed_is, follows_again n rs rest (omega arith) more)

pub records_again : (rs : List KeyedRecord) (text : List ℕ) → BeginsWithAll rs text → Follow rs (records_of text)
unfolding records_of
records_again rs text begins = follows_again (length text) rs text (omega arith) begins

-- records without a fault, up to the last that is needed, are complete
pub right_end : {P : Type 0} (game : SavedGame P) (before rs : List KeyedRecord)
    → AreRight game before rs → is_complete (met (before ++ rs)) ≡ true
right_end game before [] right = rw (append-nil before) right
right_end game before (r ∷ rs) (undone, faultless, right) =
    subst (λ xs. is_complete (met xs) ≡ true) (append_assoc before (r ∷ []) rs)
    (right_end game (before ++ r ∷ []) rs right)

-- a key that may stand once, once it was met, doesn't stand again
pub none_again : {P : Type 0} (game : SavedGame P) (before rs : List KeyedRecord) (k : HeaderKey)
    → 0 < length (values_of k before) → AreRight game before rs → values_of k rs ≡ []
none_again game before [] k some right = refl
none_again game before (r ∷ rs) k some (undone, faultless, right) =
    let all = ap length (values_of-append k before (r ∷ [])) in
    let sum = length-append (values_of k before) (values_of k (r ∷ [])) in
    by_key r.key faultless (none_again game (before ++ r ∷ []) rs k (omega (arith, some, all, sum)) right)
  where
    by_name : (j : HeaderKey) (own : Bool) → same_header j k ≡ own → fault_by game (met before) (Header j) r.value ≡ None
        → values_of k rs ≡ [] → cond own (r.value ∷ values_of k rs) (values_of k rs) ≡ []
    by_name j true same none rest =
        let empty = (first_faultless game before j r.value none).0 in
        let here : values_of k before ≡ [] = ap (λ i. values_of i before) (sym (same_key j k same)) ∙ empty in
        absurd (omega (arith, some, ap length here))
    by_name j false other none rest = rest

    by_key : (key : Key) → fault_by game (met before) key r.value ≡ None → values_of k rs ≡ []
        → onto_values k key r.value (values_of k rs) ≡ []
    by_key (Header j) none rest = by_name j (same_header j k) refl none rest
    by_key key none rest = rest

-- the value is the only one of its header, and has no fault after the records in front of it
pub record StandsAlone {P : Type 0} (game : SavedGame P) (k : HeaderKey) (value : List ℕ) (values : List (List ℕ)) : Type 0 where
  pub alone : values ≡ value ∷ []
  pub front : List KeyedRecord
  pub faultless : value_fault game (met front) k value ≡ None

stands_alone : {P : Type 0} (game : SavedGame P) (before rs : List KeyedRecord) (k : HeaderKey) (value : List ℕ) (more : List (List ℕ))
    → AreRight game before rs → values_of k rs ≡ value ∷ more → StandsAlone game k value (values_of k rs)
stands_alone game before [] k value more right is = cc
stands_alone {P} game before (r ∷ rs) k value more (undone, faultless, right) is =
    by_key r.key refl faultless is (λ e. stands_alone game (before ++ r ∷ []) rs k value more right e)
  where
    by_name : (j : HeaderKey) (own : Bool) → r.key ≡ Header j → same_header j k ≡ own
        → fault_by game (met before) (Header j) r.value ≡ None
        → cond own (r.value ∷ values_of k rs) (values_of k rs) ≡ value ∷ more
        → (values_of k rs ≡ value ∷ more → StandsAlone game k value (values_of k rs))
        → StandsAlone game k value (cond own (r.value ∷ values_of k rs) (values_of k rs))
    by_name j true key same none e along =
        let good = (first_faultless game before j r.value none).1 in
        let first : r.value ≡ value = cc in
        let here : values_of k (r ∷ []) ≡ r.value ∷ [] = rw (key, same) refl in
        let all = ap length (values_of-append k before (r ∷ [])) in
        let sum = length-append (values_of k before) (values_of k (r ∷ [])) in
        let none_after = none_again game (before ++ r ∷ []) rs k (omega (arith, all, sum, ap length here)) right in
        record {
          alone = ap (λ x. x ∷ values_of k rs) first ∙ ap (λ xs. value ∷ xs) none_after;
          front = before;
          faultless = subst (λ v. value_fault game (met before) k v ≡ None) first
              (subst (λ i. value_fault game (met before) i r.value ≡ None) (same_key j k same) good);
        }
    by_name j false key other none e along = along e

    by_key : (key : Key) → r.key ≡ key → fault_by game (met before) key r.value ≡ None
        → onto_values k key r.value (values_of k rs) ≡ value ∷ more
        → (values_of k rs ≡ value ∷ more → StandsAlone game k value (values_of k rs))
        → StandsAlone game k value (onto_values k key r.value (values_of k rs))
    by_key (Header j) key none e along = by_name j (same_header j k) key refl none e along
    by_key c key none e along = along e

-- what holds of no value, and of a value that stands alone, holds of the values of a header
pub by_standing : {P : Type 0} (game : SavedGame P) (rs : List KeyedRecord) (k : HeaderKey) (R : List (List ℕ) → Type 0)
    → AreRight game [] rs → R [] → ((value : List ℕ) → StandsAlone game k value (values_of k rs) → R (value ∷ [])) → R (values_of k rs)
by_standing game rs k R right none some = by_values (values_of k rs) refl
  where
    by_values : (values : List (List ℕ)) → values_of k rs ≡ values → R (values_of k rs)
    by_values [] is = subst R (sym is) none
    by_values (v ∷ more) is =
        let at = stands_alone game [] rs k v more right is in subst R (sym at.alone) (some v at)

-- The records that were met after one more that has no fault, and that a record which may stand once is
-- refused the second time.
use Rattle.std.proofs.Common.{arith}
use Rattle.std.proofs.lemmas.Bool.Decides.{nat_tests}
use Rattle.std.proofs.Common.{◌≡◌, ℕ, Bool, true, false, List, [], ◌∷◌, ◌++◌, map, Option, Some, None, option_and_then, cond, refl, sym, ap, ◌∙◌}
use Rattle.std.proofs.Math.Path.{fun_ext}
use Rattle.std.proofs.lemmas.Bool.{cond_both}
use Rattle.std.proofs.lemmas.List.{append-nil, map-append}
use Rattle.play_save.specs.declared.fault.LoadFault.{LoadFault}
use Rattle.play_save.specs.declared.met.HeaderRecord.{HeaderRecord}
use Rattle.play_save.specs.declared.key.WhichCount.{WhichCount}
use Rattle.play_save.specs.declared.key.HeaderKey.{HeaderKey}
use Rattle.play_save.specs.declared.key.HeaderKey.TheVariants.{Count}
use Rattle.play_save.specs.declared.key.Key.{Key}
use Rattle.play_save.specs.declared.key.Key.TheVariants.{Header}
use Rattle.play_save.specs.Keys.{same_header}
use Rattle.play_save.specs.KeyedRecords.{KeyedRecord, KeyedState, values_of}
use Rattle.play_save.specs.SaveTexts.{SavedGame}
use Rattle.play_save.specs.FirstFaults.{MetValue, first_of, count_at, met, once, value_fault, fault_by}
use Rattle.play_save.specs.Inner.Headers.{header_of, count_in}
use Rattle.play_save.specs.Inner.Taking.{with_first, added}
use Rattle.play_save.proofs.KeyLaws.{same_key}
use Rattle.play_save.proofs.RecordLists.{values_of-append, states_in-append, one, no_first}

pub same_met : (m n : MetValue) → ((k : HeaderKey) → m.first k ≡ n.first k) → m.states ≡ n.states → m ≡ n
same_met m n first states = grind (arith, nat_tests, fun_ext)

-- if the record of a header has no fault, the header stands for the first time, and its value has none
pub once_taken : (seen : Bool) (fault : Option LoadFault) → once seen fault ≡ None → (seen ≡ false) × (fault ≡ None)
once_taken true fault none = cc
once_taken false fault none = (refl, none)

-- a record without a fault is the first of its key, and its value has no fault
pub first_faultless : {P : Type 0} (game : SavedGame P) (before : List KeyedRecord) (k : HeaderKey) (value : List ℕ)
    → fault_by game (met before) (Header k) value ≡ None
    → (values_of k before ≡ []) × (value_fault game (met before) k value ≡ None)
first_faultless game before k value none = grind (arith, nat_tests, once_taken, no_first)

-- one more record of a header without a value gives it its first value, and leaves those of the others
pub first_added : (before : List KeyedRecord) (k : HeaderKey) (value : List ℕ)
    → values_of k before ≡ [] → (j : HeaderKey)
    → first_of (values_of j (before ++ one (Header k) value)) ≡ with_first (λ i. first_of (values_of i before)) k value j
first_added before k value none j = grind (arith, nat_tests, same_key, values_of-append, append-nil)

-- what was met after one more record without a fault is what was met before, with this record added
pub met_added : {P : Type 0} (game : SavedGame P) (before : List KeyedRecord) (k : Key) (value : List ℕ)
    → fault_by game (met before) k value ≡ None → met (before ++ one k value) ≡ added (met before) k value
met_added game before k value none =
    grind (arith, nat_tests, same_met, first_added, first_faultless, states_in-append, append-nil, values_of-append)

-- if the code keeps one more header record, its value is the first of its key, and those of others stay
first_kept : (old new : List HeaderRecord) (r : HeaderRecord)
    → new ≡ old ++ r ∷ [] → first_of (values_of r.key (map header_of old)) ≡ None → (j : HeaderKey)
    → first_of (values_of j (map header_of new)) ≡ with_first (λ k. first_of (values_of k (map header_of old))) r.key r.value.now j
first_kept old new r is none j = grind (arith, nat_tests, map-append, first_added, no_first)

-- if the code keeps one more header record, what was met has this record added
pub kept_added : (old new : List HeaderRecord) (r : HeaderRecord) (states : List KeyedState)
    → new ≡ old ++ r ∷ [] → first_of (values_of r.key (map header_of old)) ≡ None
    → (let m : MetValue = record { first = λ k. first_of (values_of k (map header_of new)); states = states } in m)
    ≡ added (record { first = λ k. first_of (values_of k (map header_of old)); states = states }) (Header r.key) r.value.now
kept_added old new r states is none = same_met _ _ (first_kept old new r is none) refl

-- a count that the code keeps is still that of its header records, if it keeps one more
pub count_kept : (old new : List HeaderRecord) (r : HeaderRecord) (which : WhichCount) (number before after : Option ℕ)
    → new ≡ old ++ r ∷ [] → first_of (values_of r.key (map header_of old)) ≡ None → number ≡ count_at r.value.now
    → before ≡ count_in old which → after ≡ cond (same_header r.key (Count which)) number before
    → after ≡ count_in new which
count_kept old new r which number before after is none read was now =
    now ∙ (cond_both (same_header r.key (Count which)) number before
    (λ (o : Option ℕ). o ≡ option_and_then count_at (cond (same_header r.key (Count which)) (Some r.value.now) (first_of (values_of (Count which) (map header_of old)))))
    (λ same. rw same read) (λ other. rw other was)
    ∙ ap (option_and_then count_at) (sym (first_kept old new r is none (Count which))))

-- Reading record by record: what was met of the records before a place, and what is needed from there on.
use Rattle.std.proofs.Common.{◌≡◌, ◌⊎◌, ℕ, zero, suc, ◌≤◌, true, false, List, [], ◌∷◌, ◌++◌, length, Option, Some, None, Result, Ok, Err, refl, sym, ap, ◌∙◌, arith, inl, inr}
use Rattle.byte_text.specs.Reading.{◌>>=◌}
use Rattle.play_save.specs.declared.fault.LoadFault.{LoadFault}
use Rattle.play_save.specs.declared.fault.LoadFault.TheVariants.{Malformed, Missing, OutOfMemory}
use Rattle.play_save.specs.Records.{Entry, record_at}
use Rattle.play_save.specs.Keys.{key_of}
use Rattle.play_save.specs.KeyedRecords.{KeyedRecord, keyed}
use Rattle.play_save.specs.SaveTexts.{SavedGame}
use Rattle.play_save.specs.FirstFaults.{MetValue, met, fault_by, is_complete, Listing, nothing, listed, listing_within, records_of, needed, met_in}
use Rattle.play_save.specs.Inner.Taking.{added}
use Rattle.play_save.proofs.RecordLaws.{record_shorter, end_again, record_fault}
use Rattle.play_save.proofs.Meeting.{met_added}

-- some records before the rest have no fault, and what is needed of all is what is needed from there on
pub record Reads {P : Type 0} (game : SavedGame P) (text rest : List ℕ) (m : MetValue) : Type 0 where
  pub before : List KeyedRecord
  pub most : ℕ
  pub within : length rest ≤ most
  pub now : m ≡ met before
  pub same : needed game before (listing_within most rest) ≡ needed game [] (records_of text)

pub reads_all : {P : Type 0} (game : SavedGame P) (text : List ℕ) → Reads game text text (met [])
unfolding records_of
reads_all game text = record { before = []; most = length text; within = omega arith; now = refl; same = refl }

-- what was needed of a text tells what was met in it
met_by_needed : {P : Type 0} (game : SavedGame P) (text : List ℕ) (all : Result (List KeyedRecord) LoadFault)
    → all ≡ needed game [] (records_of text) → met_in game (records_of text) ≡ (all >>= λ rs. Ok (met rs))
met_by_needed game text all is = ap (λ (x : Result (List KeyedRecord) LoadFault). x >>= λ rs. Ok (met rs)) (sym is)

-- once all that is needed was met, this is what was met in the text
pub reads_done : {P : Type 0} {game : SavedGame P} {text rest : List ℕ} {m : MetValue}
    → Reads game text rest m → is_complete m ≡ true → met_in game (records_of text) ≡ Ok m
reads_done {P} {game} {text} {rest} {m} r complete =
    let done = rw r.now at complete in
    let all = sym (finished r.before (listing_within r.most rest) done) ∙ r.same in
    met_by_needed game text (Ok r.before) all ∙ ap Ok (sym r.now)
  where
    finished : (before : List KeyedRecord) (listing : Listing)
        → is_complete (met before) ≡ true → needed game before listing ≡ Ok before
    finished before nothing done = rw done refl
    finished before listing done = rw done refl

-- the records of a text are its first one and those after it, and a bound of their number
listing_at : (n : ℕ) (rest : List ℕ) → length rest ≤ n
    → (k : ℕ) × (listing_within n rest ≡ listed (listing_within k) (record_at rest))
    × ((e : Entry) (after : List ℕ) → record_at rest ≡ Ok (Some (e, after)) → length after ≤ k)
unfolding listing_within
listing_at (suc n) rest within = (n, refl, λ e after is. let shorter = record_shorter rest e after is in omega arith)
listing_at zero [] within = let none = end_again [] tt in (zero, rw none refl, λ e after is. cc)
listing_at zero (b ∷ bs) within = absurd (omega arith)

-- A place where more is needed, by what is read there: what is needed of the text, and a bound of the records after.
record Onward {P : Type 0} (game : SavedGame P) (text : List ℕ) (m : MetValue) (read : Result (Option (Entry × List ℕ)) LoadFault)
    : Type 0 where
  before : List KeyedRecord
  most : ℕ
  now : m ≡ met before
  undone : is_complete (met before) ≡ false
  same : needed game before (listed (listing_within most) read) ≡ needed game [] (records_of text)
  within : (e : Entry) (after : List ℕ) → read ≡ Ok (Some (e, after)) → length after ≤ most

onward : {P : Type 0} {game : SavedGame P} {text rest : List ℕ} {m : MetValue} (read : Result (Option (Entry × List ℕ)) LoadFault)
    → Reads game text rest m → is_complete m ≡ false → record_at rest ≡ read → Onward game text m read
onward {P} {game} {text} {rest} {m} read r undone is =
    let (most, same, within) = listing_at r.most rest r.within in
    let made : Onward game text m (record_at rest) = record {
      before = r.before;
      most = most;
      now = r.now;
      undone = rw r.now at undone;
      same = rw same at r.same;
      within = within;
    } in
    rw is at made

-- if no record is left at a place where more is needed, the text is refused as Missing
pub reads_end : {P : Type 0} {game : SavedGame P} {text rest : List ℕ} {m : MetValue}
    → Reads game text rest m → is_complete m ≡ false → record_at rest ≡ Ok None → met_in game (records_of text) ≡ Err Missing
reads_end {P} {game} {text} r undone read =
    let o = onward (Ok None) r undone read in
    met_by_needed game text (Err Missing) (rw o.undone at o.same)

-- if no record can be read at a place where more is needed, the text is refused with the fault of reading
pub reads_broken : {P : Type 0} {game : SavedGame P} {text rest : List ℕ} {m : MetValue} {fault : LoadFault}
    → Reads game text rest m → is_complete m ≡ false → record_at rest ≡ Err fault → met_in game (records_of text) ≡ Err fault
reads_broken {P} {game} {text} {rest} {m} {fault} r undone read =
    let o = onward (Err fault) r undone read in
    met_by_needed game text (Err Malformed) (rw o.undone at o.same) ∙ ap Err (sym (record_fault rest fault read))

-- if a record that is needed is refused, with its fault or for memory, so is the text
pub reads_fault : {P : Type 0} {game : SavedGame P} {text rest : List ℕ} {m : MetValue} {e : Entry} {after : List ℕ} (fault : LoadFault)
    → Reads game text rest m → is_complete m ≡ false → record_at rest ≡ Ok (Some (e, after))
    → (fault ≡ OutOfMemory) ⊎ (fault_by game m (key_of e.key) e.value ≡ Some fault)
    → (fault ≡ OutOfMemory) ⊎ (met_in game (records_of text) ≡ Err fault)
reads_fault fault r undone read (inl memory) = inl memory
reads_fault {P} {game} {text} {rest} {m} {e} {after} fault r undone read (inr has) =
    let o = onward (Ok (Some (e, after))) r undone read in
    let has_it = rw o.now at has in
    inr (met_by_needed game text (Err fault) (rw (o.undone, has_it) at o.same))

-- after a record without a fault this record is added to what was met, and reading goes on behind it
pub reads_more : {P : Type 0} {game : SavedGame P} {text rest : List ℕ} {m new : MetValue} {e : Entry} {after : List ℕ}
    → Reads game text rest m → is_complete m ≡ false → record_at rest ≡ Ok (Some (e, after))
    → fault_by game m (key_of e.key) e.value ≡ None → new ≡ added m (key_of e.key) e.value → Reads game text after new
reads_more {P} {game} {text} {rest} {m} {new} {e} {after} r undone read none is =
    let o = onward (Ok (Some (e, after))) r undone read in
    let none_here = rw o.now at none in
    record {
      before = o.before ++ keyed e ∷ [];
      most = o.most;
      within = o.within e after refl;
      now = rw o.now at is ∙ sym (met_added game o.before (key_of e.key) e.value none_here);
      same = rw (o.undone, none_here) at o.same;
    }

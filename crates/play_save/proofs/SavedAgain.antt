-- A save of a session is read as that session.
use Rattle.std.proofs.Common.{◌≡◌, ◌⊎◌, ℕ, ◌+◌, ◌<◌, ◌≤◌, true, false, nat_lt, List, [], ◌∷◌, ◌++◌, length, bytes_eq, Option, Some, None, is_some, Result, Ok, refl, sym, ap, ◌∙◌, subst, arith, inl, inr, length-append}
use Rattle.std.specs.List.{AllByRecursion}
use Rattle.std.specs.Fmt.{decimal}
use Rattle.trail_solver.specs.Puzzles.{Puzzle}
use Rattle.std.proofs.lemmas.List.{append-nil, append_assoc}
use Rattle.std.proofs.lemmas.Slice.Eq.{bytes_eq-Decides}
use borrow.Author.Tests.{le-leb}
use Rattle.std.proofs.lemmas.Bool.Decides.{nat_tests}
use Rattle.byte_text.specs.Reading.{◌>>=◌}
use Rattle.game_texts.specs.declared.params.Params.{Params}
use Rattle.game_texts.specs.Parameters.{IsParamText}
use Rattle.game_texts.proofs.ParameterLemmas.{params_again}
use Rattle.play_midend.specs.declared.moves.Move.{Move}
use Rattle.play_midend.specs.Histories.{History, IsValid, started}
use Rattle.play_midend.specs.MoveLists.{with_moves}
use Rattle.play_midend.proofs.MoveListLaws.{legal_list_played}
use Rattle.play_save.specs.declared.fault.LoadFault.{LoadFault}
use Rattle.play_save.specs.declared.key.WhoseParams.{WhoseParams}
use Rattle.play_save.specs.declared.key.WhoseParams.TheVariants.{Next, Current}
use Rattle.play_save.specs.declared.key.WhichCount.{WhichCount}
use Rattle.play_save.specs.declared.key.WhichCount.TheVariants.{States, Position}
use Rattle.play_save.specs.declared.key.HeaderKey.{HeaderKey}
use Rattle.play_save.specs.declared.key.HeaderKey.TheVariants.{FormatVersion, Title, Desc, Count}
use Rattle.play_save.specs.declared.key.Key.{Key}
use Rattle.play_save.specs.declared.key.Key.TheVariants.{Header, State, Other}
use Rattle.play_save.specs.declared.save_format.TheConstants.{MOST_BYTES}
use Rattle.play_save.specs.Records.{record_at}
use Rattle.play_save.specs.KeyedRecords.{KeyedRecord, KeyedState, values_of, states_in, onto_states, once_if_kept, is_state, CountsStandFirst, may_be_last, EndsWithState}
use Rattle.play_save.specs.SaveTexts.{SavedGame, params_of, count_of, HasValues, format_record, HaveStates, AreSaved, SaveText}
use Rattle.play_save.specs.FirstFaults.{saved_params_at, count_at, first_of, met, params_met, count_met, extras_met, go_together, other_count, behind_counts, state_fault, value_fault, fault_by, has_all, is_complete, records_of, needed, states_played, session_of, behind_head, met_in, load_at}
use Rattle.play_save.proofs.RecordLaws.{record_again}
use Rattle.play_save.proofs.RecordLists.{one, values_of-append, values_at, states_in-append, append_none, kept_each, same_extras}
use Rattle.play_save.proofs.RightLists.{AreRight, needed_again, records_again}
use Rattle.play_save.proofs.Counting.{count_again}
use Rattle.play_save.proofs.GameTexts.{IsGame}
use Rattle.play_save.proofs.StatesPlayed.{states_again, state_faultless, have_length}

-- with each key that may stand once a save has one value at most
kept_at_most : (kept : Option (List ℕ)) → length (once_if_kept kept) ≤ 1
kept_at_most None = omega arith
kept_at_most (Some value) = omega arith

one_at_most : {P : Type 0} (game : SavedGame P) (h : History P) (k : HeaderKey) (values : List (List ℕ))
    → HasValues game h k values → length values ≤ 1
one_at_most game h k values has = grind (arith, nat_tests, kept_at_most)

-- the value is one that a save has of its header, and none of this header stands before it
record IsAlone {P : Type 0} (game : SavedGame P) (h : History P) (k : HeaderKey) (value : List ℕ) (before : List KeyedRecord)
    : Type 0 where
  first : values_of k before ≡ []
  has : HasValues game h k (value ∷ [])

alone_at : {P : Type 0} (game : SavedGame P) (h : History P) (k : HeaderKey) (value : List ℕ) (before later : List KeyedRecord)
    → AreSaved game h (before ++ (one (Header k) value ++ later)) → IsAlone game h k value before
alone_at game h k value before later s =
    let whole = values_at k value before later in
    let few = one_at_most game h k _ (s.values k) in
    let sum = length-append (values_of k before) (value ∷ values_of k later) in
    let front = none (values_of k before) (omega (arith, ap length whole, sum, few)) in
    let back = none (values_of k later) (omega (arith, ap length whole, sum, few)) in
    record { first = front; has = subst (HasValues game h k) (whole ∙ rw (front, back) refl) (s.values k) }
  where
    none : {A : Type 0} (xs : List A) → length xs ≡ 0 → xs ≡ []
    none [] e = refl
    none (x ∷ xs) e = cc

-- equal bytes pass the test for equality
same_bytes : (xs ys : List ℕ) → xs ≡ ys → bytes_eq xs ys ≡ true
same_bytes xs ys e = (bytes_eq-Decides xs ys).1 e

-- no state record of a save has a fault
abbrev AreFaultless : List KeyedState → Type 0
AreFaultless ss = AllByRecursion (λ s. state_fault s.key s.value ≡ None) ss

all_faultless : {P : Type 0} (game : SavedGame P) (p : P) (ms : List Move) (ss : List KeyedState)
    → HaveStates game p ms ss → AreFaultless ss
all_faultless game p [] [] have = tt
all_faultless game p [] (s ∷ ss) have = absurd have
all_faultless game p (m ∷ ms) [] have = absurd have
all_faultless game p (m ∷ ms) (s ∷ ss) have =
    (state_faultless game p s.key s.value m have.0, all_faultless game p ms ss have.1)

-- the counts of a save are read, and go together
count_good : {P : Type 0} (p : Puzzle) (h : History P) → IsValid p h → (which : WhichCount)
    → count_at (decimal (count_of h which)) ≡ Some (count_of h which)
count_good p h valid which = grind (arith, nat_tests, count_again)

go_good : {P : Type 0} (p : Puzzle) (h : History P) → IsValid p h → (which : WhichCount)
    → go_together which (count_of h which) (count_of h (other_count which)) ≡ true
go_good p h valid States = le-leb h.position (length h.moves + 1) valid.last
go_good p h valid Position = le-leb h.position (length h.moves + 1) valid.last

-- a count was met before a place, or stands after it
abbrev IsOnSide : {P : Type 0} → History P → WhichCount → List KeyedRecord → List KeyedRecord → Type 0
IsOnSide h which before later =
    (values_of (Count which) before ≡ [])
    ⊎ ((count_met (met before) which ≡ Some (count_of h which)) × (values_of (Count which) later ≡ []))

count_side : {P : Type 0} (game : SavedGame P) (h : History P) (before later : List KeyedRecord)
    → AreSaved game h (before ++ later) → (which : WhichCount) → IsOnSide h which before later
count_side game h before later s which =
    by_values (values_of (Count which) before) refl
    (sym (values_of-append (Count which) before later) ∙ s.values (Count which))
  where
    by_values : (values : List (List ℕ)) → values_of (Count which) before ≡ values
        → values ++ values_of (Count which) later ≡ decimal (count_of h which) ∷ [] → IsOnSide h which before later
    by_values [] none all = inl none
    by_values (v ∷ vs) some all =
        let rest = append_none vs (values_of (Count which) later) (cc) in
        let same : v ≡ decimal (count_of h which) = cc in
        inr (rw (some, same) (count_good (game.puzzle h.puzzle) h s.valid which), rest.1)

-- the parameters of a save are read as the session's
params_good : {P : Type 0} (game : SavedGame P) (p : Params) (value : List ℕ)
    → IsParamText game.letters p value → saved_params_at game value ≡ Ok p
params_good game p value is = params_again game.letters game.has_adjacent value p is

-- no value of a save has a fault after the records before it
head_same : {A : Type 0} (x y : A) → x ∷ [] ≡ y ∷ [] → x ≡ y
head_same x y e = cc

value_good : {P : Type 0} (game : SavedGame P) (h : History P) (before later : List KeyedRecord) (k : HeaderKey) (value : List ℕ)
    → IsValid (game.puzzle h.puzzle) h → ((which : WhichCount) → IsOnSide h which before later) → HasValues game h k (value ∷ [])
    → value_fault game (met before) k value ≡ None
value_good game h before later k value valid side has =
    grind (arith, nat_tests, same_bytes, head_same, params_good, count_good, go_good)

-- no record of a save has a fault after those before it
faultless_at : {P : Type 0} (game : SavedGame P) (h : History P) (before later : List KeyedRecord) (k : Key) (value : List ℕ)
    → AreSaved game h (before ++ (one k value ++ later))
    → (is_state k ≡ true → (which : WhichCount) → values_of (Count which) later ≡ [])
    → AreFaultless (onto_states k value (states_in later)) → fault_by game (met before) k value ≡ None
faultless_at game h before later Other value s counts fine = refl
faultless_at game h before later (Header k) value s counts fine =
    let at = alone_at game h k value before later s in
    rw at.first (value_good game h before (one (Header k) value ++ later) k value s.valid (count_side game h before (one (Header k) value ++ later) s) at.has)
faultless_at game h before later (State k) value s counts fine =
    let none = counts refl in
    let count = met_before States (none States) (count_side game h before (one (State k) value ++ later) s States) in
    let place = met_before Position (none Position) (count_side game h before (one (State k) value ++ later) s Position) in
    let both : behind_counts (met before) (state_fault k value) ≡ state_fault k value = rw (count, place) refl in
    both ∙ fine.0
  where
    met_before : (which : WhichCount) → values_of (Count which) later ≡ []
        → IsOnSide h which before (one (State k) value ++ later) → is_some (count_met (met before) which) ≡ true
    met_before which none (inr some) = ap is_some some.0
    met_before which none (inl empty) =
        let nowhere : values_of (Count which) (before ++ (one (State k) value ++ later)) ≡ [] =
        values_of-append (Count which) before (one (State k) value ++ later) ∙ rw (empty, none) refl in
        let stands = s.values (Count which) in
        cc

-- a list of records, unless it is empty, ends as a save does
abbrev EndsIfAny : List KeyedRecord → Type 0
EndsIfAny [] = Unit {0}
EndsIfAny (r ∷ rs) = EndsWithState (r ∷ rs)

ends_later : (r : KeyedRecord) (rs : List KeyedRecord) → EndsWithState (r ∷ rs) → EndsIfAny rs
ends_later r [] ends = tt
ends_later r (k ∷ rs) ends = ends

-- a list that ends with a state record or a count, and has no count, has a state
has_state_or_count : (rs : List KeyedRecord)
    → EndsWithState rs → ((which : WhichCount) → values_of (Count which) rs ≡ []) → 0 < length (states_in rs)
has_state_or_count [] ends none = absurd ends
has_state_or_count (r ∷ []) ends none = by_key r.key r.value ends none
  where
    by_key : (k : Key) (value : List ℕ)
        → may_be_last k ≡ true → ((which : WhichCount) → values_of (Count which) (one k value) ≡ [])
        → 0 < length (states_in (one k value))
    by_key (State k) value last none = omega arith
    by_key (Header (Count which)) value last none =
        let stands = sym (values_at (Count which) value [] []) ∙ none which in cc
    by_key k value last none = cc
has_state_or_count (r ∷ k ∷ rs) ends none =
    let more = has_state_or_count (k ∷ rs) ends later_none in
    omega (arith, more, longer_states r.key (states_in (k ∷ rs)))
  where
    later_none : (which : WhichCount) → values_of (Count which) (k ∷ rs) ≡ []
    later_none which =
        (append_none (values_of (Count which) (r ∷ [])) (values_of (Count which) (k ∷ rs))
        (sym (values_of-append (Count which) (r ∷ []) (k ∷ rs)) ∙ none which)).1

    longer_states : (c : Key) (ss : List KeyedState) → length ss ≤ length (onto_states c r.value ss)
    longer_states (State c) ss = omega arith
    longer_states c ss = omega arith

-- before the last record the save isn't complete
undone_at : {P : Type 0} (game : SavedGame P) (h : History P) (before later : List KeyedRecord)
    → AreSaved game h (before ++ later) → EndsWithState later → is_complete (met before) ≡ false
undone_at game h before later s ends =
    by_side (count_side game h before later s States) (count_side game h before later s Position)
  where
    no_position : (o : Option ℕ) (n : ℕ) → has_all o None n ≡ false
    no_position (Some m) n = refl
    no_position None n = refl

    by_side : IsOnSide h States before later → IsOnSide h Position before later → is_complete (met before) ≡ false
    by_side (inl none) place = rw none refl
    by_side (inr some) (inl none) = rw none (no_position (count_met (met before) States) (length (states_in before)))
    by_side (inr some) (inr place) =
        let none : (which : WhichCount) → values_of (Count which) later ≡ [] =
        λ which. elim which as (λ w. values_of (Count w) later ≡ []) [ States ↦ some.1 | Position ↦ place.1 ] in
        let more = has_state_or_count later ends none in
        let all = ap length (states_in-append before later) in
        let long = have_length game h.puzzle h.moves (states_in (before ++ later)) s.states in
        let sum = length-append (states_in before) (states_in later) in
        let above : length (states_in before) + 1 < length h.moves + 1 = omega arith in
        rw (some.0, place.0) (grind (arith, nat_tests))

-- the records of a save have no fault, and the last is the first that completes them
count_saved : {P : Type 0} (game : SavedGame P) (rs : List KeyedRecord) (h : History P)
    → AreSaved game h rs → (which : WhichCount) → count_met (met rs) which ≡ Some (count_of h which)
count_saved game rs h s which = grind (arith, nat_tests, count_good)

right_along : {P : Type 0} (game : SavedGame P) (h : History P) (before later : List KeyedRecord)
    → AreSaved game h (before ++ later) → CountsStandFirst later → EndsIfAny later → AreFaultless (states_in later)
    → AreRight game before later
right_along game h before [] s counts ends fine =
    let all : AreSaved game h before = rw append-nil at s in
    let long = have_length game h.puzzle h.moves (states_in before) all.states in
    let count = count_saved game before h all in
    rw (count States, count Position)
    (le-leb (length h.moves + 1) (length (states_in before) + 1) (omega arith))
right_along game h before (r ∷ later) s counts ends fine =
    let onward : AreSaved game h ((before ++ r ∷ []) ++ later) = rw (append_assoc before (r ∷ []) later) s in (
      undone_at game h before (r ∷ later) s ends,
      faultless_at game h before later r.key r.value s counts.0 fine,
      right_along game h (before ++ r ∷ []) later onward counts.1 (ends_later r later ends)
          (fine_later r.key (states_in later) fine),
    )
  where
    fine_later : (c : Key) (ss : List KeyedState) → AreFaultless (onto_states c r.value ss) → AreFaultless ss
    fine_later (State c) ss all = all.1
    fine_later c ss all = all

ends_at_all : (rs : List KeyedRecord) → EndsWithState rs → EndsIfAny rs
ends_at_all [] ends = tt
ends_at_all (r ∷ rs) ends = ends

pub saved_right : {P : Type 0} (game : SavedGame P) (rs : List KeyedRecord) (h : History P)
    → AreSaved game h rs → AreRight game [] rs
saved_right game rs h s =
    right_along game h [] rs s s.counts_first (ends_at_all rs s.last)
    (all_faultless game h.puzzle h.moves (states_in rs) s.states)

-- the records of a save give the session: what it keeps, its parameters, and its moves, played
first_kept : (kept : Option (List ℕ)) (values : List (List ℕ)) → values ≡ once_if_kept kept → first_of values ≡ kept
first_kept None values is = ap first_of is
first_kept (Some v) values is = ap first_of is

extras_saved : {P : Type 0} (game : SavedGame P) (rs : List KeyedRecord) (h : History P)
    → AreSaved game h rs → extras_met (met rs) ≡ h.extras
extras_saved game rs h s = grind (arith, nat_tests, same_extras, kept_each, first_kept)

params_saved : {P : Type 0} (game : SavedGame P) (rs : List KeyedRecord) (h : History P)
    → AreSaved game h rs → (whose : WhoseParams) → params_met game (met rs) whose ≡ Some (params_of h whose)
params_saved game rs h s whose = grind (arith, nat_tests, params_good)

pub session_again : {P : Type 0} (game : SavedGame P) (rs : List KeyedRecord) (h : History P)
    → IsGame game → AreSaved game h rs → session_of game (met rs) ≡ Ok h
unfolding session_of
session_again {P} game rs h owes s =
    let m = met rs in
    let text = s.values Desc in
    let version : is_some (m.first FormatVersion) ≡ true = ap (λ vs. is_some (first_of vs)) (s.values FormatVersion) in
    let name : is_some (m.first Title) ≡ true = ap (λ vs. is_some (first_of vs)) (s.values Title) in
    let next = params_saved game rs h s Next in
    let now = params_saved game rs h s Current in
    let desc : m.first Desc ≡ Some text.value = ap first_of text.alone in
    let place = count_saved game rs h s Position in
    let puzzle : game.desc_at h.params.size text.value ≡ Ok h.puzzle =
    owes.reads.again h.params.size text.value h.puzzle text.holds in
    let start = started h.puzzle h.params h.next_params h.extras in
    let legal =
    legal_list_played (game.puzzle h.puzzle) h.puzzle h.params h.next_params h.extras h.moves s.valid.legal s.valid.few in
    let played : states_played game start 1 (states_in rs) ≡ Ok (with_moves start h.moves) =
    states_again game start (with_moves start h.moves) 1 h.moves (states_in rs) owes s.states legal in
    let extras = extras_saved game rs h s in
    rw (version, name, next, now, desc, place, puzzle, extras, played) refl

-- a text that is a save of a session is read as this session
pub load_again : {P : Type 0} (game : SavedGame P) (text : List ℕ) (h : History P)
    → IsGame game → SaveText game h text → load_at game text ≡ Ok h
unfolding load_at
load_again game text h owes t =
    let small : nat_lt MOST_BYTES (length text) ≡ false = (let within = t.small in grind (arith, nat_tests)) in
    let head : behind_head (record_at text) ≡ Ok t.behind_head =
    ap behind_head (record_again text format_record t.behind_head t.head) in
    let read : needed game [] (records_of t.behind_head) ≡ Ok t.records =
    needed_again game [] t.records (records_of t.behind_head)
    (saved_right game t.records h t.saved) (records_again t.records t.behind_head t.begins) in
    let all : met_in game (records_of t.behind_head) ≡ Ok (met t.records) =
    ap (λ (s : Result (List KeyedRecord) LoadFault). s >>= λ rs. Ok (met rs)) read in
    rw (small, head, all) (session_again game t.records h owes t.saved)

-- A text that is read as a session is a save of it.
use Rattle.std.proofs.lemmas.Bool.Decides.{nat_tests}
use Rattle.std.proofs.Common.{◌≡◌, length-append, option_and_then, ℕ, ◌<◌, true, false, ◌&&◌, nat_lt, List, [], ◌∷◌, ◌++◌, length, codes, bytes_eq, Option, Some, None, is_some, Result, Ok, ok_or, refl, sym, ap, ◌∙◌, subst, arith}
use Rattle.std.specs.Result.{result_ok, result_unwrap_or}
use Rattle.std.specs.Fmt.{decimal}
use Rattle.std.proofs.lemmas.Slice.Eq.{bytes_eq-Decides}
use Rattle.std.proofs.lemmas.Bool.{and_parts, ltb-false}
use Rattle.byte_text.proofs.ReadingLaws.{bind_taken}
use Rattle.game_texts.specs.declared.params.Params.{Params}
use Rattle.game_texts.specs.Parameters.{IsParamText}
use Rattle.game_texts.proofs.ParameterLemmas.{params_taken}
use Rattle.play_midend.specs.Histories.{History, started, at_position}
use Rattle.play_midend.specs.MoveLists.{with_moves}
use Rattle.play_midend.proofs.MoveListLaws.{accepted_list_legal}
use Rattle.play_save.specs.declared.fault.LoadFault.{LoadFault}
use Rattle.play_save.specs.declared.fault.LoadFault.TheVariants.{Version, WrongGame, Repeated, Unsupported, BadDesc, Missing, TooLarge}
use Rattle.play_save.specs.declared.key.WhoseParams.{WhoseParams}
use Rattle.play_save.specs.declared.key.WhoseParams.TheVariants.{Next, Current}
use Rattle.play_save.specs.declared.key.WhichCount.{WhichCount}
use Rattle.play_save.specs.declared.key.WhichCount.TheVariants.{States, Position}
use Rattle.play_save.specs.declared.key.HeaderKey.{HeaderKey}
use Rattle.play_save.specs.declared.key.HeaderKey.TheVariants.{SaveFile, FormatVersion, Title, ParamsOf, Desc, PrivateDesc, Kept, Count}
use Rattle.play_save.specs.declared.key.Key.{Key}
use Rattle.play_save.specs.declared.key.Key.TheVariants.{State}
use Rattle.play_save.specs.declared.save_format.TheConstants.{MOST_BYTES}
use Rattle.play_save.specs.Records.{Entry, BeginsWith, record_at}
use Rattle.play_save.specs.KeyedRecords.{KeyedRecord, values_of, states_in, IsOne, once_if_kept, is_state, CountsStandFirst, may_be_last, EndsWithState}
use Rattle.play_save.specs.SaveTexts.{SavedGame, HasValues, format_record, AreSaved, SaveText}
use Rattle.play_save.specs.FirstFaults.{MetValue, saved_params_at, count_at, first_of, met, params_met, count_met, extras_met, fault_unless, state_fault, value_fault, fault_by, is_complete, records_of, unless, needed, states_played, session_of, head_or_fault, behind_head, met_in, load_at}
use Rattle.play_save.specs.Inner.Taking.{added}
use Rattle.play_midend.proofs.OptionSteps.{and_then_taken, ok_or_taken, result_taken, ok_else, ok_where}
use Rattle.play_save.proofs.RecordLaws.{record_taken}
use Rattle.play_save.proofs.RecordLists.{kept_each, values_of-append}
use Rattle.play_save.proofs.Meeting.{met_added}
use Rattle.play_save.proofs.RightLists.{AreRight, needed_taken, records_taken, none_again, by_standing}
use Rattle.play_save.proofs.Counting.{count_taken, fault_unless_taken, counts_met, counted}
use Rattle.play_save.proofs.GameTexts.{IsGame}
use Rattle.play_save.proofs.StatesPlayed.{IsDescribed, ok_taken, states_taken, have_length}

-- what was met of a header is its only value
only_value : {P : Type 0} (game : SavedGame P) (rs : List KeyedRecord) (k : HeaderKey) (value : List ℕ)
    → AreRight game [] rs → (met rs).first k ≡ Some value → values_of k rs ≡ value ∷ []
only_value game rs k value right is =
    by_standing game rs k (λ vs. first_of vs ≡ Some value → vs ≡ value ∷ []) right (λ e. cc) (λ v at e. cc) is

-- a header whose value always has a fault never stands
never : {P : Type 0} (game : SavedGame P) (rs : List KeyedRecord) (k : HeaderKey) (fault : LoadFault)
    → AreRight game [] rs → ((m : MetValue) (value : List ℕ) → value_fault game m k value ≡ Some fault) → values_of k rs ≡ []
never game rs k fault right refused =
    by_standing game rs k (λ vs. vs ≡ []) right refl (λ v at. let some = refused (met at.front) v in let none = at.faultless in cc)

-- a header that may have one value alone has this value, if it was met
fixed_value : {P : Type 0} (game : SavedGame P) (rs : List KeyedRecord) (k : HeaderKey) (value : List ℕ) (fault : LoadFault)
    → AreRight game [] rs
    → ((m : MetValue) (v : List ℕ) → value_fault game m k v ≡ None → fault_unless (bytes_eq v value) fault ≡ None)
    → is_some ((met rs).first k) ≡ true → values_of k rs ≡ value ∷ []
fixed_value game rs k value fault right only some =
    by_standing game rs k (λ vs. is_some (first_of vs) ≡ true → vs ≡ value ∷ []) right (λ e. cc) (λ v at e.
    let good = fault_unless_taken (bytes_eq v value) fault (only (met at.front) v at.faultless) in
    ap (λ w. w ∷ []) ((bytes_eq-Decides v value).0 good)) some

params_taken_of : {P : Type 0} (game : SavedGame P) (rs : List KeyedRecord) (whose : WhoseParams) (p : Params)
    → AreRight game [] rs → params_met game (met rs) whose ≡ Some p
    → IsOne (IsParamText game.letters p) (values_of (ParamsOf whose) rs)
params_taken_of game rs whose p right is =
    let read = and_then_taken _ ((met rs).first (ParamsOf whose)) p is in
    record {
      value = read.value;
      alone = only_value game rs (ParamsOf whose) read.value right read.gives;
      holds = params_taken game.letters game.has_adjacent read.value p (ok_taken (saved_params_at game read.value) p read.rest);
    }

count_taken_of : {P : Type 0} (game : SavedGame P) (rs : List KeyedRecord) (which : WhichCount) (n : ℕ)
    → AreRight game [] rs → count_met (met rs) which ≡ Some n → values_of (Count which) rs ≡ decimal n ∷ []
count_taken_of game rs which n right is = grind (arith, nat_tests, and_then_taken, only_value, count_taken)

-- no count follows a state record
right_counts_first : {P : Type 0} (game : SavedGame P) (before rs : List KeyedRecord)
    → AreRight game before rs → CountsStandFirst rs
right_counts_first game before [] right = tt
right_counts_first {P} game before (r ∷ rs) (undone, faultless, right) =
    ((λ state. by_key r.key r.value state faultless), right_counts_first game (before ++ r ∷ []) rs right)
  where
    some : (which : WhichCount) (n : ℕ) → count_met (met before) which ≡ Some n → 0 < length (values_of (Count which) before)
    some which n is = by_values (values_of (Count which) before) is
      where
        by_values : (values : List (List ℕ)) → option_and_then count_at (first_of values) ≡ Some n → 0 < length values
        by_values [] e = cc
        by_values (v ∷ vs) e = omega arith

    by_key : (k : Key) (value : List ℕ) → is_state k ≡ true → fault_by game (met before) k value ≡ None
        → (which : WhichCount) → values_of (Count which) rs ≡ []
    by_key (State k) value state none = λ which.
        let count = (counts_met (met before) (state_fault k value) none).0 which in
        let here = some which count.0 count.1 in
        let all = values_of-append (Count which) before (r ∷ []) in
        let stands : 0 < length (values_of (Count which) (before ++ r ∷ [])) =
        omega (arith, here, ap length all, length-append (values_of (Count which) before) (values_of (Count which) (r ∷ []))) in
        none_again game (before ++ r ∷ []) rs (Count which) stands right
    by_key k value state none = cc

-- a record that completes those before it is a state record or a count
completes : (m : MetValue) (k : Key) (value : List ℕ)
    → is_complete m ≡ false → is_complete (added m k value) ≡ true → may_be_last k ≡ true
completes m k value undone done = grind (arith, nat_tests)

right_ends : {P : Type 0} (game : SavedGame P) (before : List KeyedRecord) (r : KeyedRecord) (rs : List KeyedRecord)
    → AreRight game before (r ∷ rs) → EndsWithState (r ∷ rs)
right_ends game before r [] (undone, faultless, right) =
    let done : is_complete (added (met before) r.key r.value) ≡ true =
    ap is_complete (sym (met_added game before r.key r.value faultless)) ∙ right in
    completes (met before) r.key r.value undone done
right_ends game before r (k ∷ rs) (undone, faultless, right) = right_ends game (before ++ r ∷ []) k rs right

ends_with_state : {P : Type 0} (game : SavedGame P) (rs : List KeyedRecord) → AreRight game [] rs → EndsWithState rs
ends_with_state game [] right = cc
ends_with_state game (r ∷ rs) right = right_ends game [] r rs right

-- if records without a fault give a session, they are the records of a save of it
unless_taken : {A : Type 0} (fault : Option LoadFault) (r : Result A LoadFault) (a : A)
    → unless fault r ≡ Ok a → (fault ≡ None) × (r ≡ Ok a)
unless_taken None r a is = (refl, is)
unless_taken (Some fault) r a is = cc

pub saved_taken : {P : Type 0} (game : SavedGame P) (rs : List KeyedRecord) (h : History P)
    → IsGame game → AreRight game [] rs → session_of game (met rs) ≡ Ok h → AreSaved game h rs
unfolding session_of
saved_taken {P} game rs h owes right is =
    let m = met rs in
    let stand = is_some (m.first FormatVersion) && is_some (m.first Title) in
    let both = unless_taken (fault_unless stand Missing) _ h is in
    let names = and_parts _ _ (fault_unless_taken stand Missing both.0) in
    let next = bind_taken (ok_or (params_met game m Next) Missing) _ h both.1 in
    let now = bind_taken (ok_or (params_met game m Current) Missing) _ h next.rest in
    let desc = bind_taken (ok_or (m.first Desc) Missing) _ h now.rest in
    let place = bind_taken (ok_or (count_met m Position) Missing) _ h desc.rest in
    let puzzle = bind_taken (ok_or (result_ok (game.desc_at now.value.size desc.value)) BadDesc) _ h place.rest in
    let p = puzzle.value in
    let start = started p now.value next.value (extras_met m) in
    let last = bind_taken (states_played game start 1 m.states) _ h puzzle.rest in
    let next_are = params_taken_of game rs Next next.value right (ok_or_taken _ Missing next.value next.gives) in
    let now_are = params_taken_of game rs Current now.value right (ok_or_taken _ Missing now.value now.gives) in
    let desc_is = ok_or_taken (m.first Desc) Missing desc.value desc.gives in
    let position_is = ok_or_taken (count_met m Position) Missing place.value place.gives in
    let counts = counted game rs right in
    let own_params = now_are.holds.params in
    let described =
    owes.reads.taken now.value.size desc.value p own_params.smallest own_params.largest
    (result_taken (game.desc_at now.value.size desc.value) BadDesc p puzzle.gives) in
    let size = owes.sized now.value.size p desc.value described in
    let own : IsDescribed game p = record {
      text = desc.value;
      described = subst (λ w. game.Describes w p desc.value) (sym size) described;
      smallest = rw size own_params.smallest;
      largest = rw size own_params.largest;
    } in
    let played = states_taken game start last.value 1 m.states owes own last.gives in
    let (legal, few, played_on) =
    accepted_list_legal (game.puzzle p) p now.value next.value (extras_met m) played.moves last.value played.played_is in
    let long = have_length game p played.moves (states_in rs) played.have in
    let here : counts.p ≡ place.value = (let a = counts.position_is in cc) in
    let whole_h : History P = at_position (with_moves start played.moves) place.value in
    let count = count_taken_of game rs States counts.n right counts.count_is in
    let made : AreSaved game whole_h rs = record {
      values = λ k. elim k as (λ j. HasValues game whole_h j (values_of j rs)) [
        | SaveFile ↦ never game rs SaveFile Repeated right (λ n v. refl)
        | FormatVersion ↦ fixed_value game rs FormatVersion (codes "1") Version right (λ n v none. none) names.0
        | Title ↦ fixed_value game rs Title game.title WrongGame right (λ n v none. none) names.1
        | ParamsOf whose ↦ elim whose as (λ w. HasValues game whole_h (ParamsOf w) (values_of (ParamsOf w) rs)) [
          | Next ↦ next_are
          | Current ↦ now_are
        ]
        | Desc ↦ record { value = desc.value; alone = only_value game rs Desc desc.value right desc_is; holds = described }
        | PrivateDesc ↦ never game rs PrivateDesc Unsupported right (λ n v. refl)
        | Kept j ↦
            by_standing game rs (Kept j) (λ vs. vs ≡ once_if_kept (first_of vs)) right refl (λ v at. refl)
            ∙ ap once_if_kept (sym (kept_each (λ i. m.first (Kept i)) j))
        | Count which ↦ elim which as (λ w. HasValues game whole_h (Count w) (values_of (Count w) rs)) [
          | States ↦ count ∙ ap (λ n. decimal n ∷ []) (omega (arith, counts.states, long))
          | Position ↦ count_taken_of game rs Position place.value right position_is
        ]
      ];
      states = played.have;
      counts_first = right_counts_first game [] rs right;
      last = ends_with_state game rs right;
      valid = record {
        size = sym size;
        legal = legal;
        few = few;
        first = omega (arith, here, counts.first);
        last = omega (arith, here, counts.inside, counts.states, long);
      };
    } in
    let given = ap (λ (r : Result (History P) LoadFault). result_unwrap_or r h) last.rest in
    let whole = ap (λ (x : History P). at_position x place.value) (sym played_on) ∙ given in
    subst (λ (x : History P). AreSaved game x rs) whole made

-- a first record that is accepted names the format
head_taken : (e : Entry) (after rest : List ℕ) → head_or_fault e after ≡ Ok rest → (e ≡ format_record) × (after ≡ rest)
head_taken e after rest is = grind (arith, nat_tests, ok_where, bytes_eq-Decides)

behind_head_taken : (text rest : List ℕ) (read : Result (Option (Entry × List ℕ)) LoadFault)
    → record_at text ≡ read → behind_head read ≡ Ok rest → BeginsWith format_record rest text
behind_head_taken text rest read h is = grind (arith, nat_tests, head_taken, record_taken)

-- a text that is read as a session is a save of it
pub load_taken : {P : Type 0} (game : SavedGame P) (text : List ℕ) (h : History P)
    → IsGame game → load_at game text ≡ Ok h → SaveText game h text
unfolding load_at
load_taken {P} game text h owes is =
    let fits = ok_else (nat_lt MOST_BYTES (length text)) TooLarge _ h is in
    let head = bind_taken (behind_head (record_at text)) _ h fits.1 in
    let some = bind_taken (met_in game (records_of head.value)) _ h head.rest in
    let all = bind_taken (needed game [] (records_of head.value)) _ some.value some.gives in
    let need = needed_taken game [] (records_of head.value) all.value all.gives in
    let met_is : some.value ≡ met all.value = cc all.rest in
    let same : some.value ≡ met need.more = rw need.all_is at met_is in
    record {
      small = ltb-false MOST_BYTES (length text) fits.0;
      behind_head = head.value;
      head = behind_head_taken text head.value (record_at text) refl head.gives;
      records = need.more;
      begins = records_taken need.more head.value need.follow;
      saved = saved_taken game need.more h owes need.right (rw same at some.rest);
    }

-- The text that is written of a session is a save of it, and of no other.
use Rattle.std.proofs.lemmas.Bool.Decides.{nat_tests}
use Rattle.std.proofs.Common.{◌≡◌, ℕ, ◌≤◌, List, [], ◌∷◌, ◌++◌, length, map, Result, Ok, Err, IfOk, IfErr, refl, sym, ap, ◌∙◌, subst, arith, length-append, lit≤}
use Rattle.std.proofs.lemmas.Option.{some_pair_parts}
use Rattle.std.specs.List.{AllByRecursion}
use Rattle.byte_text.specs.Bytes.{line_feed}
use Rattle.byte_text.specs.Reading.{GivesUnless}
use Rattle.trail_solver.specs.Puzzles.{Puzzle}
use Rattle.game_texts.specs.Parameters.{IsParams, params_text}
use Rattle.game_texts.proofs.ParameterLemmas.{same_params}
use Rattle.play_midend.specs.declared.moves.Move.{Move}
use Rattle.play_midend.specs.Steps.{start_of}
use Rattle.play_midend.specs.Histories.{History, IsValid, IsStorable, shown}
use Rattle.play_save.specs.declared.fault.LoadFault.{LoadFault}
use Rattle.play_save.specs.declared.fault.LoadFault.TheVariants.{OutOfMemory}
use Rattle.play_save.specs.declared.key.WhoseParams.{WhoseParams}
use Rattle.play_save.specs.declared.key.WhoseParams.TheVariants.{Next, Current}
use Rattle.play_save.specs.declared.key.HeaderKey.TheVariants.{SaveFile, FormatVersion, Title, ParamsOf, Desc, PrivateDesc, Kept, Count}
use Rattle.play_save.specs.declared.key.Key.TheVariants.{Header}
use Rattle.play_save.specs.declared.save_format.TheConstants.{MOST_BYTES}
use Rattle.play_save.specs.Records.{BeginsWith}
use Rattle.play_save.specs.KeyedRecords.{KeyedRecord, BeginsWithAll, values_of}
use Rattle.play_save.specs.SaveTexts.{SavedGame, params_of, HasValues, collection, format_record, IsStateOf, HaveStates, SaveText}
use Rattle.play_save.specs.Written.{with_value, state_value, record_text, records_text, save_of}
use Rattle.play_save.specs.Laws.{WrittenIsSaved, WrittenSavesNoOther}
use Rattle.play_save.proofs.RecordLaws.{record_again}
use Rattle.play_save.proofs.GameTexts.{Owes}
use Rattle.play_save.proofs.LoadAnswers.{saves_one_session}
use Rattle.play_save.proofs.WrittenRecords.{written_begins, all_written, same_alone}
use Rattle.play_save.proofs.SessionRecords.{tail_records, values_tail, states_tail, counts_first_tail, ends_tail, known_tail}
use Rattle.play_midend.proofs.LegalMoves.{FitsText, all_fit}

-- the state record that is written of a move is this move's
state_again : {P : Type 0} (game : SavedGame P) (p : P) (desc : List ℕ) (m : Move)
    → game.Describes (game.puzzle p).size p desc → FitsText m
    → IsStateOf game p m (state_value desc m).key (state_value desc m).value
state_again game p desc m described fits = grind (arith, nat_tests)

states_again : {P : Type 0} (game : SavedGame P) (p : P) (desc : List ℕ) (ms : List Move)
    → game.Describes (game.puzzle p).size p desc → AllByRecursion FitsText ms
    → HaveStates game p ms (map (state_value desc) ms)
states_again game p desc [] described fits = tt
states_again game p desc (m ∷ ms) described fits =
    (state_again game p desc m described fits.0, states_again game p desc ms described fits.1)

-- the records that are written after the first
abbrev tail_of : {P : Type 0} → SavedGame P → History P → List KeyedRecord
tail_of game h = tail_records game.title (game.desc_of h.puzzle) h

-- the text after the first record
abbrev behind_first : {P : Type 0} → SavedGame P → History P → List ℕ
behind_first game h = line_feed ∷ records_text (tail_of game h)

-- the written text is that of the first record, and then that of the others
written_text : {P : Type 0} (game : SavedGame P) (h : History P)
    → save_of game.title game.desc_of h ≡ record_text (with_value (Header SaveFile) collection) ++ records_text (tail_of game h)
unfolding save_of
written_text game h = refl

-- what is read of a written text: its first record, and the others to the end
record Read {P : Type 0} (game : SavedGame P) (h : History P) (text : List ℕ) : Type 0 where
  head : BeginsWith format_record (behind_first game h) text
  all : BeginsWithAll (tail_of game h) (behind_first game h)

read_written : {P : Type 0} (game : SavedGame P) (h : History P)
    → length (save_of game.title game.desc_of h) ≤ MOST_BYTES → Read game h (save_of game.title game.desc_of h)
read_written {P} game h small =
    let rs = tail_of game h in
    let first = with_value (Header SaveFile) collection in
    let text = written_text game h in
    let short : length (records_text rs) ≤ MOST_BYTES =
    omega (arith, ap length text, length-append (record_text first) (records_text rs)) in
    record {
      head = rw text (written_begins first [] (records_text rs) tt refl (lit≤ tt));
      all = all_written rs (line_feed ∷ []) (refl, tt) (known_tail game.title (game.desc_of h.puzzle) h) short;
    }

-- what is written of a storable session is a save of it, if it isn't too long
pub written_is_saved : {P : Type 0} (game : SavedGame P) (of_game : P → Type 0)
    → Owes game of_game → WrittenIsSaved game of_game
written_is_saved {P} game of_game owes h storable small =
    let title = game.title in
    let desc = game.desc_of h.puzzle in
    let p = game.puzzle h.puzzle in
    let read = read_written game h small in
    let valid = storable.session in
    let described = owes.own_text h.puzzle storable.puzzle_is in
    let largest : p.size ≤ 9 = (let top = storable.params_are.largest in omega (arith, valid.size)) in
    let fits = all_fit p (start_of p) h.moves largest valid.legal.playable in
    let states = states_again game h.puzzle desc h.moves described fits in
    let stands = values_tail title desc h in
    let params_are : (whose : WhoseParams) → IsParams game.letters (params_of h whose) =
    λ whose. elim whose as (λ w. IsParams game.letters (params_of h w)) [
      | Next ↦ storable.next_params_are
      | Current ↦ storable.params_are
    ] in
    record {
      small = small;
      behind_head = behind_first game h;
      head = read.head;
      records = tail_of game h;
      begins = read.all;
      saved = record {
        values = λ k. elim k as (λ j. HasValues game h j (values_of j (tail_of game h))) [
          | SaveFile ↦ stands SaveFile
          | FormatVersion ↦ stands FormatVersion
          | Title ↦ stands Title
          | ParamsOf whose ↦ record {
            value = params_text (params_of h whose);
            alone = stands (ParamsOf whose);
            holds = record { params = params_are whose; text_is = refl };
          }
          | Desc ↦ record {
            value = desc;
            alone = stands Desc;
            holds = subst (λ w. game.Describes w h.puzzle desc) (sym valid.size) described;
          }
          | PrivateDesc ↦ stands PrivateDesc
          | Kept j ↦ stands (Kept j)
          | Count which ↦ stands (Count which)
        ];
        states = rw (states_tail title desc h) states;
        counts_first = counts_first_tail title desc h;
        last = ends_tail title desc h;
        valid = valid;
      };
    }

-- what is written of one session is the save of no other, and that one can be stored, since its parameters are read again
pub written_saves_no_other : {P : Type 0} (game : SavedGame P) (of_game : P → Type 0)
    → Owes game of_game → WrittenSavesNoOther game of_game
written_saves_no_other {P} game of_game owes h other valid of t =
    let text = save_of game.title game.desc_of h in
    let read = read_written game h t.small in
    let head = record_again text format_record t.behind_head t.head in
    let own_head = record_again text format_record (behind_first game h) read.head in
    let rest = (some_pair_parts format_record format_record t.behind_head (behind_first game h) (cc)).1 in
    let begins = rw rest at t.begins in
    let params_are : (whose : WhoseParams) → IsParams game.letters (params_of h whose) = λ whose.
    let own = t.saved.values (ParamsOf whose) in
    let stands = values_tail game.title (game.desc_of h.puzzle) h (ParamsOf whose) in
    let same = same_alone (ParamsOf whose) own.value _ t.records (tail_of game h) _ begins read.all own.alone stands in
    subst (λ p. IsParams game.letters p)
    (same_params (params_of other whose) (params_of h whose) (sym own.holds.text_is ∙ same)) own.holds.params in
    let storable : IsStorable game.puzzle of_game game.letters h = record {
      session = valid;
      puzzle_is = of;
      params_are = params_are Current;
      next_params_are = params_are Next;
    } in
    let saved = written_is_saved game of_game owes h storable t.small in
    (saves_one_session game owes.texts other h text t saved, storable)

-- if what was written of a session is loaded, the answer is this session
pub round_same : {P : Type 0} (game : SavedGame P) (of_game : P → Type 0) (h : History P) (text : List ℕ)
    (answer : Result (History P) LoadFault)
    → WrittenSavesNoOther game of_game → IsValid (game.puzzle h.puzzle) h → of_game h.puzzle
    → text ≡ save_of game.title game.desc_of h → IfOk answer (λ s. SaveText game s text) → IfOk answer (λ s. s ≡ h)
round_same game of_game h text answer law valid of written is = grind (arith, nat_tests)

pub round_board : {P : Type 0} (puzzle : P → Puzzle) (h : History P) (answer : Result (History P) LoadFault)
    → IfOk answer (λ s. s ≡ h) → IfOk answer (λ s. shown (puzzle s.puzzle) s ≡ shown (puzzle h.puzzle) h)
round_board puzzle h (Ok s) same = ap (λ k. shown (puzzle k.puzzle) k) same
round_board puzzle h (Err e) same = tt

pub round_refused : {P : Type 0} (game : SavedGame P) (h : History P) (answer : Result (History P) LoadFault)
    → GivesUnless OutOfMemory (λ s. s) answer (Ok h) → IfErr answer (λ fault. fault ≡ OutOfMemory)
round_refused game h answer gives = grind (arith, nat_tests)

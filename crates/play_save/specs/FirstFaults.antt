-- Reading a save text: the session, or the first fault.
use Rattle.std.specs.Prelude.{ℕ, zero, suc, ◌+◌, Bool, true, false, ◌&&◌, nat_lt, nat_le, bytes_eq, is_some}
use Rattle.std.specs.Prelude.{if◌then◌else◌, List, [], ◌∷◌, ◌++◌, length, codes, Option, Some, None, option_and_then, Result, Ok, Err, ok_or}
use Rattle.std.specs.Result.{result_ok}
use Rattle.byte_text.specs.Decimals.{decimal_value}
use Rattle.byte_text.specs.Reading.{◌>>=◌}
use Rattle.game_texts.specs.declared.id_fault.IdFault.{IdFault}
use Rattle.game_texts.specs.declared.params.Params.{Params}
use Rattle.game_texts.specs.Parameters.{params_at}
use Rattle.play_midend.specs.declared.extras.Extras.{Extras}
use Rattle.play_midend.specs.declared.moves.Move.{Move}
use Rattle.play_midend.specs.declared.moves.Move.TheVariants.{Restart}
use Rattle.play_midend.specs.declared.fault.PlayFault.{PlayFault}
use Rattle.play_midend.specs.declared.fault.PlayFault.TheVariants.{Unsupported as HintOrSign}
use Rattle.play_midend.specs.MoveTexts.{move_at}
use Rattle.play_midend.specs.declared.session.TheConstants.{MOST_STATES}
use Rattle.play_midend.specs.Histories.{History, started, at_position, played}
use Rattle.play_save.specs.declared.fault.LoadFault.{LoadFault}
use Rattle.play_save.specs.declared.fault.LoadFault.TheVariants.{NotASave, Malformed, Version, WrongGame, Repeated}
use Rattle.play_save.specs.declared.fault.LoadFault.TheVariants.{EarlyState, Unsupported, BadParams, BadDesc, BadCount, Missing, BadState, TooLarge}
use Rattle.play_save.specs.declared.key.StateKey.{StateKey}
use Rattle.play_save.specs.declared.key.StateKey.TheVariants.{AnyMove, SolveMove, RestartMove}
use Rattle.play_save.specs.declared.key.WhoseParams.{WhoseParams}
use Rattle.play_save.specs.declared.key.WhoseParams.TheVariants.{Next, Current}
use Rattle.play_save.specs.declared.key.WhichCount.{WhichCount}
use Rattle.play_save.specs.declared.key.WhichCount.TheVariants.{States, Position}
use Rattle.play_save.specs.declared.key.HeaderKey.{HeaderKey}
use Rattle.play_save.specs.declared.key.HeaderKey.TheVariants.{SaveFile, FormatVersion, Title, ParamsOf, Desc, PrivateDesc, Kept, Count}
use Rattle.play_save.specs.declared.key.Key.{Key}
use Rattle.play_save.specs.declared.key.Key.TheVariants.{Header, State, Other}
use Rattle.play_save.specs.declared.save_format.TheConstants.{MOST_BYTES}
use Rattle.play_save.specs.Records.{Entry, record_at}
use Rattle.play_save.specs.Keys.{each_kept}
use Rattle.play_save.specs.KeyedRecords.{KeyedRecord, keyed, KeyedState, values_of, states_in}
use Rattle.play_save.specs.SaveTexts.{SavedGame, collection, is_solve}

-- the parameters of the game that a value says, or the first fault of the value
abbrev pub saved_params_at : {P : Type 0} → SavedGame P → List ℕ → Result Params IdFault
saved_params_at game value = params_at game.letters game.has_adjacent value

-- the number, if it isn't 0
abbrev pub positive : ℕ → Option ℕ
positive zero = None
positive (suc n) = Some (suc n)

-- a count: a decimal from 1 to MOST_STATES
abbrev pub count_at : List ℕ → Option ℕ
count_at value = option_and_then positive (decimal_value MOST_STATES value)

-- The content of some records: the first value of each key that may stand once, and the state records.
pub record MetValue : Type 0 where
  pub first : HeaderKey → Option (List ℕ)
  pub states : List KeyedState

-- the first of a list, if there is one
abbrev pub first_of : {A : Type 0} → List A → Option A
first_of [] = None
first_of (v ∷ vs) = Some v

-- what these records say
abbrev pub met : List KeyedRecord → MetValue
met rs = record { first = λ k. first_of (values_of k rs); states = states_in rs }

-- the parameters that were met, of the next game or the current one, if they can be read
abbrev pub params_met : {P : Type 0} → SavedGame P → MetValue → WhoseParams → Option Params
params_met game m whose = option_and_then (λ value. result_ok (saved_params_at game value)) (m.first (ParamsOf whose))

-- the count that was met, if it can be read
abbrev pub count_met : MetValue → WhichCount → Option ℕ
count_met m which = option_and_then count_at (m.first (Count which))

-- the values that are kept as they are
abbrev pub extras_met : MetValue → Extras
extras_met m = each_kept (λ k. m.first (Kept k))

-- a fault, where the test fails
abbrev pub fault_unless : Bool → LoadFault → Option LoadFault
fault_unless true fault = None
fault_unless false fault = Some fault

-- a record that may stand once: the fault of its value, where it stands for the first time
abbrev pub once : Bool → Option LoadFault → Option LoadFault
once true fault = Some Repeated
once false fault = fault

-- the fault of parameters that can't be read
abbrev pub params_fault : Result Params IdFault → Option LoadFault
params_fault (Ok p) = None
params_fault (Err fault) = Some BadParams

-- a position is no greater than the count of states
abbrev pub go_together : WhichCount → ℕ → ℕ → Bool
go_together States n position = nat_le position n
go_together Position position n = nat_le position n

-- of two counts, the other one
abbrev pub other_count : WhichCount → WhichCount
other_count States = Position
other_count Position = States

-- the fault of a count: it can't be read, or doesn't go together with the other one, if that was met
abbrev pub count_fault : WhichCount → Option ℕ → Option ℕ → Option LoadFault
count_fault which None other = Some BadCount
count_fault which (Some n) None = None
count_fault which (Some n) (Some other) = fault_unless (go_together which n other) BadCount

-- the fault of a move's text: it is a hint or a spent sign
abbrev pub text_fault : Result Move PlayFault → Option LoadFault
text_fault (Err HintOrSign) = Some Unsupported
text_fault _ = None

-- the fault of a state record: it holds a hint or a spent sign; a restart's text is no move
abbrev pub state_fault : StateKey → List ℕ → Option LoadFault
state_fault AnyMove value = text_fault (move_at value)
state_fault SolveMove value = text_fault (move_at value)
state_fault RestartMove value = None

-- the fault of a state record, EarlyState if it comes before both counts
abbrev pub behind_counts : MetValue → Option LoadFault → Option LoadFault
behind_counts m fault =
    if is_some (count_met m States) && is_some (count_met m Position) then fault else Some EarlyState

-- the fault of a value that stands with a key for the first time
abbrev pub value_fault : {P : Type 0} → SavedGame P → MetValue → HeaderKey → List ℕ → Option LoadFault
value_fault game m SaveFile value = Some Repeated
value_fault game m FormatVersion value = fault_unless (bytes_eq value (codes "1")) Version
value_fault game m Title value = fault_unless (bytes_eq value game.title) WrongGame
value_fault game m (ParamsOf whose) value = params_fault (saved_params_at game value)
value_fault game m Desc value = None
value_fault game m PrivateDesc value = Some Unsupported
value_fault game m (Kept k) value = None
value_fault game m (Count which) value = count_fault which (count_at value) (count_met m (other_count which))

-- the fault of a record after those that were met
abbrev pub fault_by : {P : Type 0} → SavedGame P → MetValue → Key → List ℕ → Option LoadFault
fault_by game m (Header k) value = once (is_some (m.first k)) (value_fault game m k value)
fault_by game m (State k) value = behind_counts m (state_fault k value)
fault_by game m Other value = None

-- both counts were met, and all states after the first
abbrev pub has_all : Option ℕ → Option ℕ → ℕ → Bool
has_all (Some n) (Some position) states = nat_le n (states + 1)
has_all _ _ states = false

-- whether all that the counts ask for was met
abbrev pub is_complete : MetValue → Bool
is_complete m = has_all (count_met m States) (count_met m Position) (length m.states)

-- the records of a text up to its end, or to what is no record
pub data Listing : Type 0 where
  nothing : Listing
  broken : Listing
  first : KeyedRecord → Listing → Listing

-- the first record of a text and those after it, by what reading it gave
abbrev pub listed : (List ℕ → Listing) → Result (Option (Entry × List ℕ)) LoadFault → Listing
listed more (Err fault) = broken
listed more (Ok None) = nothing
listed more (Ok (Some parts)) = first (keyed parts.0) (more parts.1)

-- the first n records of a text at most; a text has no more records than bytes
unfoldable pub listing_within : ℕ → List ℕ → Listing
listing_within zero text = nothing
listing_within (suc n) text = listed (listing_within n) (record_at text)

-- the records of a whole text
unfoldable pub records_of : List ℕ → Listing
records_of text = listing_within (length text) text

-- the fault, or what comes after if there is none
abbrev pub unless : {A : Type 0} → Option LoadFault → Result A LoadFault → Result A LoadFault
unless None more = more
unless (Some fault) more = Err fault

-- the records up to the last that is needed, after those before, or the first fault among them
abbrev pub needed : {P : Type 0} → SavedGame P → List KeyedRecord → Listing → Result (List KeyedRecord) LoadFault
needed game before nothing = if is_complete (met before) then Ok before else Err Missing
needed game before broken = if is_complete (met before) then Ok before else Err Malformed
needed game before (first r more) =
    if is_complete (met before) then Ok before
    else unless (fault_by game (met before) r.key r.value) (needed game (before ++ r ∷ []) more)

-- the move, if it fills in a solution
abbrev pub solution_alone : Move → Option Move
solution_alone m = if is_solve m then Some m else None

-- a restart, where its description is that of the puzzle
abbrev pub restart_of : {P : Type 0} → SavedGame P → P → P → Option Move
restart_of game p q = if bytes_eq (game.desc_of q) (game.desc_of p) then Some Restart else None

-- the move that a state record says by its key and its value
abbrev pub state_move : {P : Type 0} → SavedGame P → P → StateKey → List ℕ → Option Move
state_move game p AnyMove value = result_ok (move_at value)
state_move game p SolveMove value = option_and_then solution_alone (result_ok (move_at value))
state_move game p RestartMove value =
    option_and_then (restart_of game p) (result_ok (game.desc_at (game.puzzle p).size value))

-- the move of the state record with the number i, played, or BadState if there is none or it is refused
abbrev pub move_played : {P : Type 0} → SavedGame P → History P → ℕ → Option Move → Result (History P) LoadFault
move_played game h i None = Err (BadState i)
move_played game h i (Some m) = ok_or (result_ok (played (game.puzzle h.puzzle) h m)) (BadState i)

-- a state record, played where it says a move that can be made
abbrev pub state_played : {P : Type 0} → SavedGame P → History P → ℕ → KeyedState → Result (History P) LoadFault
state_played game h i s = move_played game h i (state_move game h.puzzle s.key s.value)

-- the state records played in turn, from the record with the number i on
abbrev pub states_played : {P : Type 0} → SavedGame P → History P → ℕ → List KeyedState → Result (History P) LoadFault
states_played game h i [] = Ok h
states_played game h i (s ∷ ss) =
    state_played game h i s >>= λ next. states_played game next (i + 1) ss

-- the session of a puzzle, or the first state record that is wrong
abbrev pub session_with : {P : Type 0} → SavedGame P → MetValue → Params → Params → ℕ → P → Result (History P) LoadFault
session_with game m params next_params position puzzle =
    states_played game (started puzzle params next_params (extras_met m)) 1 m.states
    >>= λ last. Ok (at_position last position)

-- the session of a description, where that can be read
abbrev pub session_at : {P : Type 0} → SavedGame P → MetValue → Params → Params → List ℕ → ℕ
    → Result (History P) LoadFault
session_at game m params next_params desc position =
    ok_or (result_ok (game.desc_at params.size desc)) BadDesc
    >>= λ puzzle. session_with game m params next_params position puzzle

-- the session of what was met, or the first thing that is missing or wrong
unfoldable pub session_of : {P : Type 0} → SavedGame P → MetValue → Result (History P) LoadFault
session_of game m =
    unless (fault_unless (is_some (m.first FormatVersion) && is_some (m.first Title)) Missing)
    (ok_or (params_met game m Next) Missing >>= λ next_params. ok_or (params_met game m Current) Missing >>= λ params.
    ok_or (m.first Desc) Missing >>= λ desc. ok_or (count_met m Position) Missing >>= λ position.
    session_at game m params next_params desc position)

-- what follows the first record, which names the format
abbrev pub head_or_fault : Entry → List ℕ → Result (List ℕ) LoadFault
head_or_fault e rest =
    if bytes_eq e.key (codes "SAVEFILE") && bytes_eq e.value collection then Ok rest else Err NotASave

-- what follows the first record, where there is one
abbrev pub behind_head : Result (Option (Entry × List ℕ)) LoadFault → Result (List ℕ) LoadFault
behind_head (Ok (Some parts)) = head_or_fault parts.0 parts.1
behind_head _ = Err NotASave

-- what was met up to the last record that is needed
abbrev pub met_in : {P : Type 0} → SavedGame P → Listing → Result MetValue LoadFault
met_in game listing = needed game [] listing >>= λ rs. Ok (met rs)

-- a save text: its session, or its first fault
unfoldable pub load_at : {P : Type 0} → SavedGame P → List ℕ → Result (History P) LoadFault
load_at game text =
    if nat_lt MOST_BYTES (length text) then Err TooLarge
    else (behind_head (record_at text) >>= λ rest. met_in game (records_of rest) >>= λ m. session_of game m)

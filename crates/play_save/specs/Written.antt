-- The save text that is written for a session.
use Rattle.std.specs.Prelude.{ℕ, List, [], ◌∷◌, ◌++◌, length, map, codes, if◌then◌else◌, Option, Some, None}
use Rattle.std.specs.List.{flat_map}
use Rattle.std.specs.Fmt.{decimal}
use Rattle.game_texts.specs.Parameters.{params_text}
use Rattle.play_midend.specs.declared.moves.Move.{Move}
use Rattle.play_midend.specs.MoveTexts.{move_text}
use Rattle.play_midend.specs.Steps.{is_restart}
use Rattle.play_midend.specs.Histories.{History}
use Rattle.play_save.specs.declared.key.StateKey.TheVariants.{AnyMove, SolveMove, RestartMove}
use Rattle.play_save.specs.declared.key.Key.{Key}
use Rattle.play_save.specs.declared.key.HeaderKey.{HeaderKey}
use Rattle.play_save.specs.declared.key.HeaderKey.TheVariants.{SaveFile, FormatVersion, Title, ParamsOf, Desc, PrivateDesc, Kept, Count}
use Rattle.play_save.specs.declared.key.Key.TheVariants.{Header, State}
use Rattle.play_save.specs.Keys.{key_name, keys, padded, kept_at}
use Rattle.play_save.specs.KeyedRecords.{KeyedRecord, KeyedState}
use Rattle.play_save.specs.SaveTexts.{collection, is_solve, params_of, count_of}
use Rattle.byte_text.specs.Bytes.{colon, line_feed}

-- a record as it is written
unfoldable pub record_text : KeyedRecord → List ℕ
record_text r =
    padded (key_name r.key) ++ (colon ∷ (decimal (length r.value) ++ (colon ∷ (r.value ++ (line_feed ∷ [])))))

-- records, one after another
abbrev pub records_text : List KeyedRecord → List ℕ
records_text rs = flat_map record_text rs

-- a record by its key and its value
abbrev pub with_value : Key → List ℕ → KeyedRecord
with_value k value = record { key = k; value = value }

-- the value that is written with a header, where there is one
abbrev pub value_written : {P : Type 0} → List ℕ → List ℕ → History P → HeaderKey → Option (List ℕ)
value_written title desc h SaveFile = Some collection
value_written title desc h FormatVersion = Some (codes "1")
value_written title desc h Title = Some title
value_written title desc h (ParamsOf whose) = Some (params_text (params_of h whose))
value_written title desc h Desc = Some desc
value_written title desc h PrivateDesc = None
value_written title desc h (Kept k) = kept_at h.extras k
value_written title desc h (Count which) = Some (decimal (count_of h which))

-- the record of a header, where there is a value
abbrev pub header_records : HeaderKey → Option (List ℕ) → List KeyedRecord
header_records k None = []
header_records k (Some value) = with_value (Header k) value ∷ []

-- the records that are written with a key: none for a state's, since these are written move by move
abbrev pub key_records : {P : Type 0} → List ℕ → List ℕ → History P → Key → List KeyedRecord
key_records title desc h (Header k) = header_records k (value_written title desc h k)
key_records title desc h _ = []

-- the state record of a move by its key and its value: of a restart, the description of the puzzle
abbrev pub state_value : List ℕ → Move → KeyedState
state_value desc m =
    if is_restart m then record { key = RestartMove; value = desc }
    else record { key = if is_solve m then SolveMove else AnyMove; value = move_text m }

-- the state record of a move
abbrev pub state_record : List ℕ → Move → KeyedRecord
state_record desc m = with_value (State (state_value desc m).key) (state_value desc m).value

-- all records of a session, of a game with this name: its headers in order, and its state records
abbrev pub session_records : {P : Type 0} → List ℕ → (P → List ℕ) → History P → List KeyedRecord
session_records title desc_of h =
    flat_map (key_records title (desc_of h.puzzle) h) keys ++ map (state_record (desc_of h.puzzle)) h.moves

-- the save text of a session
unfoldable pub save_of : {P : Type 0} → List ℕ → (P → List ℕ) → History P → List ℕ
save_of title desc_of h = records_text (session_records title desc_of h)

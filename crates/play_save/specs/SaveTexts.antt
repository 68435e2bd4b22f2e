-- Which texts are a save of a session.
use Rattle.std.specs.Prelude.{◌≡◌, ℕ, ◌+◌, ◌≤◌, Bool, true, false, List, [], ◌∷◌, length, codes, Result}
use Rattle.std.specs.Fmt.{decimal}
use Rattle.trail_solver.specs.Puzzles.{Puzzle}
use Rattle.trail_solver.specs.declared.rules.Rules.{Ghosts as RulesGhosts}
use Rattle.game_texts.specs.declared.game.Game.{Ghosts as GameGhosts}
use Rattle.game_texts.specs.declared.id_fault.IdFault.{IdFault}
use Rattle.game_texts.specs.declared.params.Params.{Params}
use Rattle.game_texts.specs.Parameters.{IsParamText, has_adjacent_mode}
use Rattle.game_texts.specs.GameIds.{describes_at}
use Rattle.play_midend.specs.declared.moves.Move.{Move}
use Rattle.play_midend.specs.declared.moves.Move.TheVariants.{Solve, Restart}
use Rattle.play_midend.specs.MoveTexts.{IsMoveText}
use Rattle.play_midend.specs.Histories.{History, IsValid}
use Rattle.play_save.specs.declared.save_format.TheConstants.{MOST_BYTES}
use Rattle.play_save.specs.declared.key.StateKey.{StateKey}
use Rattle.play_save.specs.declared.key.StateKey.TheVariants.{AnyMove, SolveMove, RestartMove}
use Rattle.play_save.specs.declared.key.WhoseParams.{WhoseParams}
use Rattle.play_save.specs.declared.key.WhoseParams.TheVariants.{Next, Current}
use Rattle.play_save.specs.declared.key.WhichCount.{WhichCount}
use Rattle.play_save.specs.declared.key.WhichCount.TheVariants.{States, Position}
use Rattle.play_save.specs.declared.key.HeaderKey.{HeaderKey}
use Rattle.play_save.specs.declared.key.HeaderKey.TheVariants.{SaveFile, FormatVersion, Title, ParamsOf, Desc, PrivateDesc, Kept, Count}
use Rattle.play_save.specs.Keys.{kept_at}
use Rattle.play_save.specs.Records.{Entry, BeginsWith}
use Rattle.play_save.specs.KeyedRecords.{KeyedRecord, KeyedState, BeginsWithAll, values_of, states_in, IsOne}
use Rattle.play_save.specs.KeyedRecords.{once_if_kept, CountsStandFirst, EndsWithState}

-- The facts that saves ask of a game: its name and letters, whether it has an adjacent mode, what its puzzles
-- are, which text describes which puzzle of which width, the puzzle that is read of a description, and the
-- description that is written.
pub record SavedGame (P : Type 0) : Type 1 where
  pub title : List ℕ
  pub letters : List ℕ
  pub has_adjacent : Bool
  pub puzzle : P → Puzzle
  pub Describes : ℕ → P → List ℕ → Type 0
  pub desc_at : ℕ → List ℕ → Result P IdFault
  pub desc_of : P → List ℕ

-- what saves ask of a game, by the ghost members of the game
abbrev pub saved_game : {P : Type 0} → List ℕ → List ℕ → Bool → (P → Puzzle) → (P → Type 0) → (List ℕ → P → Type 0)
    → (ℕ → List ℕ → Result P IdFault) → (P → List ℕ) → SavedGame P
saved_game title letters has_adjacent puzzle of_game describes desc_at desc_of = record {
  title = title;
  letters = letters;
  has_adjacent = has_adjacent;
  puzzle = puzzle;
  Describes = describes_at puzzle of_game describes;
  desc_at = desc_at;
  desc_of = desc_of;
}

-- what saves ask of a game, by what `Rules` and `Game` say of a type P: `saves_of P.Rules P.Game.own`
abbrev pub saves_of : {P : Type 0} → RulesGhosts P → GameGhosts P → SavedGame P
saves_of rules game =
    saved_game game.title game.letter_codes
    (has_adjacent_mode game.title) rules.puzzle rules.valid game.describes game.desc_at game.desc_of

-- the value of the first record, which names the format
abbrev pub collection : List ℕ
collection = codes "Simon Tatham's Portable Puzzle Collection"

-- the record that names the format
abbrev pub format_record : Entry
format_record = record { key = codes "SAVEFILE"; value = collection }

-- whether the move fills in a solution
abbrev pub is_solve : Move → Bool
is_solve (Solve g) = true
is_solve _ = false

-- the move is the record's: by its text, as a solution also by SOLVE, a restart by the puzzle's description
abbrev pub IsStateOf : {P : Type 0} → SavedGame P → P → Move → StateKey → List ℕ → Type 0
IsStateOf game p m AnyMove text = IsMoveText m text
IsStateOf game p m SolveMove text = IsMoveText m text × (is_solve m ≡ true)
IsStateOf game p m RestartMove text = (m ≡ Restart) × game.Describes (game.puzzle p).size p text

-- each move has its state record, in turn
abbrev pub HaveStates : {P : Type 0} → SavedGame P → P → List Move → List KeyedState → Type 0
HaveStates game p [] [] = Unit {0}
HaveStates game p [] (s ∷ ss) = ⊥
HaveStates game p (m ∷ ms) [] = ⊥
HaveStates game p (m ∷ ms) (s ∷ ss) = IsStateOf game p m s.key s.value × HaveStates game p ms ss

-- the parameters of a game that a session names
abbrev pub params_of : {P : Type 0} → History P → WhoseParams → Params
params_of h Next = h.next_params
params_of h Current = h.params

-- how many states there are, and the number of the one that is shown
abbrev pub count_of : {P : Type 0} → History P → WhichCount → ℕ
count_of h States = length h.moves + 1
count_of h Position = h.position

-- these values, and no more, a save of the session has with a header
abbrev pub HasValues : {P : Type 0} → SavedGame P → History P → HeaderKey → List (List ℕ) → Type 0
HasValues game h SaveFile values = values ≡ []
HasValues game h FormatVersion values = values ≡ codes "1" ∷ []
HasValues game h Title values = values ≡ game.title ∷ []
HasValues game h (ParamsOf whose) values = IsOne (IsParamText game.letters (params_of h whose)) values
HasValues game h Desc values = IsOne (game.Describes h.params.size h.puzzle) values
HasValues game h PrivateDesc values = values ≡ []
HasValues game h (Kept k) values = values ≡ once_if_kept (kept_at h.extras k)
HasValues game h (Count which) values = values ≡ decimal (count_of h which) ∷ []

-- the records after the first, up to the last that is needed, are the session's
pub record AreSaved {P : Type 0} (game : SavedGame P) (h : History P) (rs : List KeyedRecord) : Type 0 where
  pub values : (k : HeaderKey) → HasValues game h k (values_of k rs)
  pub states : HaveStates game h.puzzle h.moves (states_in rs)
  pub counts_first : CountsStandFirst rs
  pub last : EndsWithState rs
  pub valid : IsValid (game.puzzle h.puzzle) h

-- The text is a save of the session: the record that names the format, the records of the session, and then anything.
pub record SaveText {P : Type 0} (game : SavedGame P) (h : History P) (text : List ℕ) : Type 0 where
  pub small : length text ≤ MOST_BYTES
  pub behind_head : List ℕ
  pub head : BeginsWith format_record behind_head text
  pub records : List KeyedRecord
  pub begins : BeginsWithAll records behind_head
  pub saved : AreSaved game h records

-- The first session: that of a game ID or of a file, or none; and the game that a name names.
use Rattle.std.specs.Prelude.{◌≡◌, ◌⊎◌, ℕ, ◌&&◌, false, List, Option, Some, None, is_some, Result, Ok, Err, String, string_bytes}
use Rattle.std.specs.Global.{Global}
use Rattle.std.specs.Option.{IsSomeAnd}
use Rattle.play_midend.specs.Histories.{History}
use Rattle.play_save.specs.SaveTexts.{SavedGame, saved_game, SaveText}
use Rattle.play_save.specs.FirstFaults.{load_at}
use Rattle.play_save.specs.declared.fault.LoadFault.{LoadFault}
use Rattle.play_save.specs.declared.fault.LoadFault.TheVariants.{OutOfMemory as LoadOutOfMemory}
use Rattle.line_replies.specs.declared.start.start_fault.StartFault.{StartFault}
use Rattle.line_replies.specs.declared.start.start_fault.StartFault.TheVariants.{Load, OutOfMemory}
use Rattle.line_replies.specs.declared.start.game_name.GameName.{GameName}
use Rattle.line_replies.specs.declared.start.game_name.GameName.TheVariants.{Towers, Unequal}
use Rattle.line_replies.specs.Lines.{ReplyRule}
use Rattle.line_replies.specs.GameFacts.{GameFacts}
use Rattle.line_replies.specs.NewSessions.{TextBegins, IsStartRefusal}

-- what saves ask of a game
abbrev pub saved_facts : {P : Type 0} → GameFacts P → SavedGame P
saved_facts f = saved_game f.title f.letters f.has_adjacent f.rules.puzzle f.rules.valid f.describes f.desc_at f.desc_of

-- the refusal for a fault of a save: OutOfMemory is OutOfMemory
abbrev pub load_refusal : LoadFault → StartFault
load_refusal LoadOutOfMemory = OutOfMemory
load_refusal fault = Load fault

-- The refusal is the first fault of a text that is no save, or OutOfMemory.
abbrev pub IsFileRefusal : {P : Type 0} → Result (History P) LoadFault → StartFault → Type 0
IsFileRefusal read fault = (fault ≡ OutOfMemory) ⊎ ((inner : LoadFault) × (read ≡ Err inner) × (fault ≡ Load inner))

-- the bytes of a file begin this session, or are refused so
abbrev pub FileBegins : {P : Type 0} → GameFacts P → List ℕ → Result (History P) StartFault → Type 0
FileBegins f bytes (Ok first) = SaveText (saved_facts f) first bytes
FileBegins f bytes (Err fault) = IsFileRefusal (load_at (saved_facts f) bytes) fault

-- the text that a word of the command line gives
abbrev pub Word : Type 0
Word = String Global

-- at most one of two values is there
abbrev pub NotBoth : {A B : Type 0} → Option A → Option B → Type 0
NotBoth a b = is_some a && is_some b ≡ false

-- what may be said to a line of a game
abbrev pub GameReply : Type 0 → Type 1
GameReply P = ReplyRule (Option (History P))

-- the first session: that of the ID, or otherwise that of the file's bytes, or why it is refused; none without both
abbrev pub Begins : {P : Type 0} → GameFacts P → Option Word → Option (List ℕ)
    → Result (Option (History P)) StartFault → Type 0
Begins f (Some id) bytes (Ok first) = IsSomeAnd first (λ h. TextBegins f (string_bytes id) (Ok h))
Begins f (Some id) bytes (Err fault) = IsStartRefusal (TextBegins f (string_bytes id)) fault
Begins f None (Some bytes) (Ok first) = IsSomeAnd first (λ h. FileBegins f bytes (Ok h))
Begins f None (Some bytes) (Err fault) = FileBegins f bytes (Err fault)
Begins f None None result = result ≡ Ok None

-- what is said of the game that the words name
abbrev pub OfGame : {A : Type 1} → GameName → A → A → A
OfGame Towers towers unequal = towers
OfGame Unequal towers unequal = unequal

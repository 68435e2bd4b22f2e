-- How the words of a command line are read, step by step.
use Rattle.std.specs.Prelude.{◌≡◌, ◌≢◌, ◌⊎◌, List, [], ◌∷◌, codes, Some, Err, option_map, string_bytes}
use Rattle.std.specs.Borrow.{Bor}
use Rattle.clap.specs.Words.{App, first_value, IsAmong, Rule, Text, fault_of, matches_of, rows_of}
use Rattle.clap.specs.declared.error.kind.ErrorKind.{ErrorKind}
use Rattle.clap.specs.declared.error.kind.ErrorKind.TheVariants.{DisplayHelp, DisplayVersion, OutOfMemory}
use Rattle.clap.specs.declared.parser.matches.Found.{Found}
use Rattle.puzzle_cli.specs.declared.start.command_fault.CommandFault.{CommandFault}
use Rattle.puzzle_cli.specs.declared.start.command_fault.CommandFault.TheVariants.{BadWords, HelpAsked, OutOfMemory as NoMemory}
use Rattle.puzzle_cli.specs.declared.start.command_line.Args.{Args}
use Rattle.puzzle_cli.specs.CommandLine.{AreRead, IsCommandLine, game_rule, game_word, word_texts}
use Rattle.line_replies.specs.Starts.{NotBoth}

-- the rule asks for the word of one of the two games
abbrev pub IsGameRule : Rule → Type 0
IsGameRule rule =
    (games : Bor (List (Bor Text))) × (word_texts games.now ≡ codes "towers" ∷ codes "unequal" ∷ [])
    × (rule ≡ game_rule games)

-- what was found is what the command line gives the words, and there is no fault in them
pub record AreParsed (words : List Text) (found : Found) : Type 0 where
  pub app : App
  pub line : IsCommandLine app
  pub rows : rows_of found ≡ matches_of app words
  pub no_fault : fault_of app words ≡ []

-- the words have a fault of this kind
pub record HasFault (words : List Text) (kind : ErrorKind) : Type 0 where
  pub app : App
  pub line : IsCommandLine app
  pub among : IsAmong kind (fault_of app words)

-- memory was refused, or the words have a fault of this kind
abbrev pub IsParseFault : List Text → ErrorKind → Type 0
IsParseFault words kind = (kind ≡ OutOfMemory) ⊎ HasFault words kind

-- words with a fault are told as refused, and requests for help or the version as such
abbrev pub IsToldOfKind : ErrorKind → CommandFault → Type 0
IsToldOfKind kind (BadWords text) = (kind ≢ DisplayHelp) × (kind ≢ DisplayVersion)
IsToldOfKind kind (HelpAsked text) = (kind ≢ DisplayHelp) × (kind ≢ DisplayVersion) → ⊥
IsToldOfKind kind NoMemory = ⊥

-- the words are read as this fault
abbrev pub AreWordsRefused : List Text → CommandFault → Type 0
AreWordsRefused words fault = AreRead words (Err fault)

-- these are the values that were found
pub record AreValuesFound (found : Found) (args : Args) : Type 0 where
  pub game : first_value found (codes "game") ≡ Some (game_word args.game)
  pub id : first_value found (codes "id") ≡ option_map string_bytes args.id
  pub load : first_value found (codes "load") ≡ option_map string_bytes args.load
  pub save : first_value found (codes "save") ≡ option_map string_bytes args.save
  pub one_start : NotBoth args.id args.load

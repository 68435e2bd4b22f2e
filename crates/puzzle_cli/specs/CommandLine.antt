-- The command line: the words of the games, at most one way to begin, and how the words are read by clap's
-- account of them.
use Rattle.std.specs.Prelude.{◌≡◌, ◌≢◌, ◌⊎◌, ℕ, ◌&&◌, true, false, List, [], ◌∷◌, codes, map, Option, Some, is_some}
use Rattle.std.specs.Prelude.{option_map, string_bytes, Result, Ok, Err}
use Rattle.std.specs.Borrow.{Bor}
use Rattle.clap.specs.Words.{App, IsAmong, Rule, Text, fault_of, first_of, matches_of, new_app, new_rule, with_rule}
use Rattle.clap.specs.Simple.{on_top}
use Rattle.clap.specs.declared.builder.value_parser.ValueParser.TheVariants.{Names}
use Rattle.clap.specs.declared.error.kind.ErrorKind.{ErrorKind}
use Rattle.clap.specs.declared.error.kind.ErrorKind.TheVariants.{DisplayHelp, DisplayVersion}
use Rattle.puzzle_cli.specs.declared.start.command_fault.CommandFault.{CommandFault}
use Rattle.puzzle_cli.specs.declared.start.command_fault.CommandFault.TheVariants.{BadWords, HelpAsked, OutOfMemory}
use Rattle.puzzle_cli.specs.declared.start.command_line.Args.{Args}
use Rattle.line_replies.specs.declared.start.game_name.GameName.{GameName}
use Rattle.line_replies.specs.declared.start.game_name.GameName.TheVariants.{Towers, Unequal}
use Rattle.line_replies.specs.Starts.{NotBoth}

-- the word that names a game
abbrev pub game_word : GameName → List ℕ
game_word Towers = codes "towers"
game_word Unequal = codes "unequal"

-- the texts of words
abbrev pub word_texts : List (Bor Text) → List Text
word_texts = map (λ word. word.now)

-- ---- the command line, as clap knows it

-- an option of this name, with one value
abbrev pub option_rule : Text → Rule
option_rule name = record (new_rule name) { long = Some name; value_names = 1 }

-- the word for the game, which is required and one of these
abbrev pub game_rule : Bor (List (Bor Text)) → Rule
game_rule games = record (new_rule (codes "game")) { value_names = 1; parser = Some (Names games); required = true }

-- a program of this name with a version and no arguments
abbrev pub program_line : Text → App
program_line name = on_top (λ s. record s { has_version = true }) (new_app name)

-- a program of this name with the game and three options
abbrev pub command_line : Text → Bor (List (Bor Text)) → App
command_line name games = with_rule (with_rule (with_rule (with_rule (program_line name) (game_rule games))
    (option_rule (codes "id"))) (option_rule (codes "load"))) (option_rule (codes "save"))

-- such a program, whatever its name, whose games are Towers and Unequal
pub record IsCommandLine (app : App) : Type 0 where
  pub name : Text
  pub games : Bor (List (Bor Text))
  pub both : word_texts games.now ≡ codes "towers" ∷ codes "unequal" ∷ []
  pub line : app ≡ command_line name games

-- ---- how words are read

-- the value that the words give an argument
abbrev pub named : App → List Text → Text → Option Text
named app words id = first_of id (matches_of app words)

-- the words give these values, and there is no fault in them
pub record AreArgs (app : App) (words : List Text) (args : Args) : Type 0 where
  pub no_fault : fault_of app words ≡ []
  pub game : named app words (codes "game") ≡ Some (game_word args.game)
  pub id : named app words (codes "id") ≡ option_map string_bytes args.id
  pub load : named app words (codes "load") ≡ option_map string_bytes args.load
  pub save : named app words (codes "save") ≡ option_map string_bytes args.save

-- there is a fault in the words, other than that they ask for help or the version
abbrev pub AreFaulty : App → List Text → Type 0
AreFaulty app words =
    (kind : ErrorKind) × IsAmong kind (fault_of app words) × (kind ≢ DisplayHelp) × (kind ≢ DisplayVersion)

-- these values name both an ID and a file to load, or no game
abbrev pub AreUnfit : Option Text → Option Text → Option Text → Type 0
AreUnfit game id load =
    ((is_some id ≡ true) × (is_some load ≡ true)) ⊎ ((name : GameName) → game ≢ Some (game_word name))

-- the words give these values, which name one way to begin
pub record AreTaken (words : List Text) (args : Args) : Type 0 where
  pub app : App
  pub line : IsCommandLine app
  pub given : AreArgs app words args
  pub one_start : NotBoth args.id args.load

-- the words are refused: there is a fault in them, or there is none and their values are unfit
pub record AreRefused (words : List Text) : Type 0 where
  pub app : App
  pub line : IsCommandLine app
  pub why : AreFaulty app words ⊎ ((fault_of app words ≡ [])
      × AreUnfit (named app words (codes "game")) (named app words (codes "id")) (named app words (codes "load")))

-- help or the version is asked for
pub record AskForHelp (words : List Text) : Type 0 where
  pub app : App
  pub line : IsCommandLine app
  pub asks : IsAmong DisplayHelp (fault_of app words) ⊎ IsAmong DisplayVersion (fault_of app words)

-- The reading of the words: their values; or, memory apart, a refusal just where there is a fault in them or
-- they are unfit, and help where it is asked for.
abbrev pub AreRead : List Text → Result Args CommandFault → Type 0
AreRead words (Ok args) = AreTaken words args
AreRead words (Err (BadWords text)) = AreRefused words
AreRead words (Err (HelpAsked text)) = AskForHelp words
AreRead words (Err OutOfMemory) = Unit {0}

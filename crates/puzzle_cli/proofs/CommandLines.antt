-- Our command line by clap's account of it.
use Rattle.std.proofs.Common.{◌≡◌, ◌≢◌, ◌⊎◌, ◌∙◌, ℕ, true, List, codes, Some, Result, Ok, Err, IfOk, IfErr, ap, inl, inr, refl, subst, sym}
use Rattle.std.specs.Borrow.{Bor}
use Rattle.clap.proofs.WalkLemmas.{first_value-rows}
use Rattle.clap.specs.Words.{App, FailsBy, HasMatchesOf, IsAmong, Rule, Text, fault_of, first_of, first_value, found_of, kind_of, is_simple, is_simple_and_free, with_rule}
use Rattle.clap.specs.declared.error.Error.{Error}
use Rattle.clap.specs.declared.error.kind.ErrorKind.{ErrorKind}
use Rattle.clap.specs.declared.error.kind.ErrorKind.TheVariants.{DisplayHelp, DisplayVersion, OutOfMemory}
use Rattle.clap.specs.declared.parser.matches.ArgMatches.{ArgMatches}
use Rattle.clap.specs.declared.parser.matches.Found.{Found}
use Rattle.puzzle_cli.specs.declared.start.command_fault.CommandFault.{CommandFault}
use Rattle.puzzle_cli.specs.declared.start.command_fault.CommandFault.TheVariants.{BadWords, HelpAsked, OutOfMemory as NoMemory}
use Rattle.puzzle_cli.specs.declared.start.command_line.Args.{Args}
use Rattle.puzzle_cli.specs.CommandLine.{AreRead, AreRefused, AreTaken, AreUnfit, AskForHelp, IsCommandLine, command_line, named, option_rule, program_line}
use Rattle.line_replies.specs.Starts.{NotBoth}
use Rattle.puzzle_cli.specs.Inner.WordReading.{AreParsed, AreValuesFound, IsGameRule, IsParseFault, AreWordsRefused, IsToldOfKind}

line_is_free : (name : Text) (games : Bor (List (Bor Text))) → is_simple_and_free (command_line name games) ≡ true
line_is_free name games = refl

line_is_simple : (name : Text) (games : Bor (List (Bor Text))) → is_simple (command_line name games) ≡ true
line_is_simple name games = refl

-- the command line is one of which clap tells the matches
pub is_simple_line : (app : App) → IsCommandLine app → is_simple app ≡ true
is_simple_line app is = ap is_simple is.line ∙ line_is_simple is.name is.games

-- the command line is one of which clap tells the faults
pub is_free_line : (app : App) → IsCommandLine app → is_simple_and_free app ≡ true
is_free_line app is = ap is_simple_and_free is.line ∙ line_is_free is.name is.games

-- a program with the game and the three options is the command line
pub is_line : (name : Text) (none one two three four : App) (game id load save : Rule) → none ≡ program_line name → IsGameRule game
    → id ≡ option_rule (codes "id") → load ≡ option_rule (codes "load") → save ≡ option_rule (codes "save")
    → one ≡ with_rule none game → two ≡ with_rule one id → three ≡ with_rule two load → four ≡ with_rule three save → IsCommandLine four
is_line name none one two three four game id load save is_program is_game is_id is_load is_save first second third fourth = record {
  name = name;
  games = is_game.0;
  both = is_game.1;
  line = rw (fourth, third, second, first, is_program, is_game.2, is_id, is_load, is_save) refl;
}

-- what the parse of a command line finds is what it gives the words, which have no fault
pub is_parsed : (app : App) (words : List Text) (result : Result ArgMatches Error) → IsCommandLine app → IfOk result (HasMatchesOf app words)
    → (is_simple_and_free app ≡ true → FailsBy (fault_of app words) result) → IfOk result (λ m. AreParsed words (found_of m))
is_parsed app words (Ok m) is matches kinds = record {
  app = app;
  line = is;
  rows = (matches (is_simple_line app is)).0;
  no_fault = kinds (is_free_line app is);
}
is_parsed app words (Err e) is matches kinds = tt

-- where the parse of a command line fails, memory was refused, or the words have a fault of this kind
pub is_parse_fault : (app : App) (words : List Text) (result : Result ArgMatches Error) → IsCommandLine app
    → (is_simple_and_free app ≡ true → FailsBy (fault_of app words) result) → IfErr result (λ e. IsParseFault words (kind_of e))
is_parse_fault app words (Ok m) is kinds = tt
is_parse_fault app words (Err e) is kinds = elim (kinds (is_free_line app is)) [
  | inl memory ↦ inl memory
  | inr among ↦ inr (record { app = app; line = is; among = among })
]

-- what was found of an argument is what the words give it
value_named : (words : List Text) (found : Found) (p : AreParsed words found) (id : Text) → named p.app words id ≡ first_value found id
value_named words found p id = ap (first_of id) (sym p.rows) ∙ sym (first_value-rows found id)

-- parsed words are read as the values that were found
pub found_is_read : (words : List Text) (found : Found) (args : Args) → AreParsed words found → AreValuesFound found args → AreTaken words args
found_is_read words found args p is = record {
  app = p.app;
  line = p.line;
  given = record {
    no_fault = p.no_fault;
    game = value_named words found p (codes "game") ∙ is.game;
    id = value_named words found p (codes "id") ∙ is.id;
    load = value_named words found p (codes "load") ∙ is.load;
    save = value_named words found p (codes "save") ∙ is.save;
  };
  one_start = is.one_start;
}

-- parsed words of which the values are unfit are refused
pub unfit_is_refused : (words : List Text) (found : Found) → AreParsed words found
    → AreUnfit (first_value found (codes "game")) (first_value found (codes "id")) (first_value found (codes "load")) → AreRefused words
unfit_is_refused words found p unfit = record {
  app = p.app;
  line = p.line;
  why = inr (
    p.no_fault,
    rw (value_named words found p (codes "game"), value_named words found p (codes "id"), value_named words found p (codes "load")) unfit,
  );
}

-- words with a fault, memory apart, are refused
fault_is_refused : (words : List Text) (kind : ErrorKind) → IsParseFault words kind → kind ≢ OutOfMemory
    → (kind ≢ DisplayHelp) × (kind ≢ DisplayVersion) → AreRefused words
fault_is_refused words kind (inl memory) not_memory mistake = absurd (not_memory memory)
fault_is_refused words kind (inr has) not_memory mistake = record {
  app = has.app;
  line = has.line;
  why = inl (kind, has.among, mistake.0, mistake.1);
}

-- a kind of error that is no other than a request for help or the version is one of these
asks : (kind : ErrorKind) → ((kind ≢ DisplayHelp) × (kind ≢ DisplayVersion) → ⊥) → (kind ≡ DisplayHelp) ⊎ (kind ≡ DisplayVersion)
asks DisplayHelp not_other = inl refl
asks DisplayVersion not_other = inr refl
asks kind not_other = absurd (not_other ((λ e. cc), (λ e. cc)))

-- words of which the fault is a request for help or the version ask for one of them
request_is_answered : (words : List Text) (kind : ErrorKind) → IsParseFault words kind → kind ≢ OutOfMemory
    → ((kind ≢ DisplayHelp) × (kind ≢ DisplayVersion) → ⊥) → AskForHelp words
request_is_answered words kind (inl memory) not_memory not_other = absurd (not_memory memory)
request_is_answered words kind (inr has) not_memory not_other = record {
  app = has.app;
  line = has.line;
  asks = elim (asks kind not_other) [
    | inl e ↦ inl (subst (λ (k : ErrorKind). IsAmong k (fault_of has.app words)) e has.among)
    | inr e ↦ inr (subst (λ (k : ErrorKind). IsAmong k (fault_of has.app words)) e has.among)
  ];
}

-- what is told of an error in the parse of the words is what the words are read as
pub told_is_read : (words : List Text) (kind : ErrorKind) (fault : CommandFault) → IsParseFault words kind → kind ≢ OutOfMemory
    → IsToldOfKind kind fault → AreWordsRefused words fault
told_is_read words kind (BadWords text) is not_memory told = fault_is_refused words kind is not_memory told
told_is_read words kind (HelpAsked text) is not_memory told = request_is_answered words kind is not_memory told
told_is_read words kind NoMemory is not_memory told = absurd told

-- words that are read name one way to begin
pub one_start_is_read : (words : List Text) (result : Result Args CommandFault) → AreRead words result → IfOk result (λ args. NotBoth args.id args.load)
one_start_is_read words (Ok args) read = read.one_start
one_start_is_read words (Err fault) read = tt

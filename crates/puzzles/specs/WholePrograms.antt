-- A program from its words to its end, over what is around it.
use Rattle.std.specs.Prelude.{List, Result, map, string_bytes}
use Rattle.puzzle_cli.specs.declared.fault.Fault.TheVariants.{Words}
use Rattle.puzzle_cli.specs.declared.start.command_fault.CommandFault.{CommandFault}
use Rattle.puzzle_cli.specs.declared.start.command_line.Args.{Args}
use Rattle.puzzle_cli.specs.CommandLine.{AreRead}
use Rattle.puzzle_cli.specs.Starts.{Word}
use Rattle.puzzle_cli.specs.Stages.{Stage, AnswerThen}
use Rattle.puzzles.specs.Names.{IsCalledPuzzlesJson}

-- the words are read, and the game that they name is played; or they are refused
abbrev pub IsOfWords : {S A : Type 0} → (Args → Stage S A) → List Word → Stage S A
IsOfWords game words = AnswerThen Words (AreRead (map string_bytes words)) game

-- the program answers in objects where it is called `puzzles-json`, and in lines of text otherwise
pub record IsUnderName (words : List Word) (plain json : List Word → Type 0) : Type 0 where
  pub in_objects : IsCalledPuzzlesJson words → json words
  pub in_lines : (IsCalledPuzzlesJson words → ⊥) → plain words

-- The words are had, and the program, as the name among them says, ends so; or they can't be had.
abbrev pub IsProgram : {S A : Type 0} → (Result (List Word) CommandFault → Type 0) → (Args → Stage S A)
    → (Args → Stage S A) → Stage S A
IsProgram gives plain json = AnswerThen Words gives (λ words old result new.
    IsUnderName words (λ list. IsOfWords plain list old result new) (λ list. IsOfWords json list old result new))

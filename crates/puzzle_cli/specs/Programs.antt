-- The program: a game from the words of its command line to the file that it is saved to, over what may be said to a
-- line (`reply`).
use Rattle.std.specs.Prelude.{◌≡◌, ℕ, List, Option, Some, None, Result, Ok, Err, is_some, true, string_bytes}
use Rattle.std.specs.Option.{IsSomeAnd}
use Rattle.puzzle_io.specs.declared.device.Source.{Ghosts as OfSource}
use Rattle.puzzle_io.specs.declared.device.Sink.{Ghosts as OfSink}
use Rattle.play_midend.specs.Histories.{History}
use Rattle.play_save.specs.Written.{save_of}
use Rattle.puzzle_cli.specs.declared.fault.Fault.{Fault}
use Rattle.puzzle_cli.specs.declared.fault.Fault.TheVariants.{Start, Input, Output, OutOfMemory}
use Rattle.puzzle_cli.specs.declared.run_end.End.{End}
use Rattle.puzzle_cli.specs.declared.run_end.End.TheVariants.{Finished, ReadFault, WriteFault}
use Rattle.puzzle_cli.specs.declared.start.command_line.Args.{Args}
use Rattle.line_replies.specs.declared.start.game_name.GameName.{GameName}
use Rattle.line_replies.specs.declared.start.game_name.GameName.TheVariants.{Towers, Unequal}
use Rattle.line_replies.specs.declared.start.start_fault.StartFault.{StartFault}
use Rattle.line_replies.specs.Lines.{ReplyRule}
use Rattle.line_replies.specs.Commands.{is_quit}
use Rattle.line_replies.specs.GameFacts.{GameFacts}
use Rattle.line_replies.specs.Starts.{Word}
use Rattle.puzzle_cli.specs.GameFiles.{Reads, Writes, Loads, Saves}
use Rattle.line_replies.specs.NewSessions.{TextBegins, IsStartRefusal}
use Rattle.line_replies.specs.RunLaws.{IsNoneOrStorable}
use Rattle.puzzle_cli.specs.Runs.{point_at, Ends}
use Rattle.puzzle_cli.specs.Stages.{Stage, AnswerThen, ThenAnswer, InTurn}
use Rattle.line_replies.specs.Starts.{FileBegins}
use Rattle.line_replies.specs.Starts.{GameReply, Begins}

-- a run from one session and the streams around it to another ends so
abbrev pub RunEnds : {P R W : Type 0} → GameReply P → OfSource R → OfSink W → End → Option (History P) → R × W
    → Option (History P) → R × W → Type 0
RunEnds reply of_source of_sink end first old last new =
    Ends reply is_quit end (point_at of_source of_sink first old.0 old.1) (point_at of_source of_sink last new.0 new.1)

-- the run: it finishes, and leaves a session that can be stored, or none; or the input or the output failed
abbrev pub Runs : {P R W : Type 0} → GameFacts P → GameReply P → OfSource R → OfSink W → Option (History P)
    → Stage (R × W) (Option (History P))
Runs f reply of_source of_sink first old (Ok last) new =
    RunEnds reply of_source of_sink Finished first old last new × IsNoneOrStorable f last
Runs {P} f reply of_source of_sink first old (Err Input) new =
    (last : Option (History P)) × RunEnds reply of_source of_sink ReadFault first old last new
Runs {P} f reply of_source of_sink first old (Err Output) new =
    (last : Option (History P)) × RunEnds reply of_source of_sink WriteFault first old last new
Runs f reply of_source of_sink first old (Err fault) new = ⊥

-- the text to be saved of the session that is left: none where there is none, or the words name no file to save to
abbrev pub text_to_save : {P : Type 0} → GameFacts P → Option Word → Option (History P) → Option (List ℕ)
text_to_save f (Some path) (Some h) = Some (save_of f.title f.desc_of h)
text_to_save f (Some path) None = None
text_to_save f None last = None

-- the text is the one to be saved; or there is one to be saved, and no memory for it
abbrev pub Spells : {P : Type 0} → GameFacts P → Option Word → Option (History P) → Result (Option (List ℕ)) Fault
    → Type 0
Spells f path last (Ok text) = text ≡ text_to_save f path last
Spells f path last (Err fault) = (is_some (text_to_save f path last) ≡ true) × (fault ≡ OutOfMemory)

-- the first session begins, the lines are run, and the text to be saved is spelled
abbrev pub Plays : {P R W : Type 0} → GameFacts P → GameReply P → OfSource R → OfSink W → Args → Option (List ℕ)
    → Stage (R × W) (Option (List ℕ))
Plays f reply of_source of_sink args bytes =
    AnswerThen Start (Begins f args.id bytes) (λ first.
    ThenAnswer (Runs f reply of_source of_sink first) (Spells f args.save))

-- a game: the file is loaded, it is played, and its text is saved
abbrev pub IsGame : {P F R W : Type 0} → GameFacts P → GameReply P → Reads F → Writes F → OfSource R → OfSink W → Args
    → Stage (F × (R × W)) (Unit {0})
IsGame f reply reads writes of_source of_sink args =
    InTurn (Loads reads args.load) (Plays f reply of_source of_sink args) (Saves writes args.save)

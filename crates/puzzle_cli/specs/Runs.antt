-- A run's output and its end, over what may be said to a line (`reply`) and which lines end a run (`quit`).
use Rattle.std.specs.Prelude.{◌≡◌, ℕ, ◌<◌, ◌≤◌, Bool, true, false, if◌then◌else◌, Option, List, [], ◌∷◌, ◌++◌, length, take, ◌⊎◌}
use Rattle.std.specs.Io.KnownBytes.{Appends, Consumes, IsAtEnd}
use Rattle.puzzle_io.specs.declared.device.Source.{Ghosts as OfSource}
use Rattle.puzzle_io.specs.declared.device.Sink.{Ghosts as OfSink}
use Rattle.puzzle_cli.specs.declared.line.line_loop.TheConstants.{INPUT_BYTES}
use Rattle.line_replies.specs.Lines.{Line, ReplyRule, all_lines, ended_lines}
use Rattle.puzzle_cli.specs.declared.run_end.End.{End}
use Rattle.puzzle_cli.specs.declared.run_end.End.TheVariants.{Finished, ReadFault, WriteFault}
use Rattle.line_replies.specs.InTurn.{RepliesInTurn, has_quit, before_quit}

-- How far the answers have come: what answers lines; the bytes that the sink took, where it tells them; and whether it
-- has failed.
pub record Progress (S : Type 0) : Type 0 where
  pub session : S
  pub taken : Option (List ℕ)
  pub failed : Bool

-- how far they have come, by a session and a sink
abbrev pub progress_at : {S W : Type 0} → OfSink W → S → W → Progress S
progress_at of_sink session sink =
    record { session = session; taken = of_sink.taken sink; failed = of_sink.has_failed sink }

-- A point in a run: how far the answers have come; the bytes that are to come in the source, where it tells them; and
-- whether it has failed.
pub record Point (S : Type 0) : Type 0 where
  pub answers : Progress S
  pub to_come : Option (List ℕ)
  pub read_failed : Bool

-- the point at which a session, a source and a sink stand
abbrev pub point_at : {S R W : Type 0} → OfSource R → OfSink W → S → R → W → Point S
point_at of_source of_sink session source sink =
    record {
      answers = progress_at of_sink session sink;
      to_come = of_source.to_come source;
      read_failed = of_source.has_failed source;
    }

-- the lines were answered in turn, and the sink, where it tells its bytes, took the replies
abbrev pub Served : {S : Type 0} → ReplyRule S → List Line → Progress S → Progress S → Type 0
Served reply lines old new =
    (written : List ℕ) × RepliesInTurn reply lines old.session written new.session × Appends old.taken new.taken written

-- the replies to earlier lines went out in full, and of the reply to the next one a front; none of the earlier is quit
pub record BreaksOff {S : Type 0} (reply : ReplyRule S) (quit : Line → Bool) (lines : List Line)
    (old new : Progress S) : Type 0 where
  pub earlier : List Line
  pub line : Line
  pub later : List Line
  pub split : lines ≡ earlier ++ line ∷ later
  pub no_quit : has_quit quit earlier ≡ false
  pub mid : Progress S
  pub served : Served reply earlier old mid
  pub bytes : List ℕ
  pub count : ℕ
  pub said : reply mid.session line bytes new.session
  pub front : Appends mid.taken new.taken (take count bytes)

-- the bytes were read, no more than a run reads
abbrev pub WereRead : {S : Type 0} → Point S → Point S → List ℕ → Type 0
WereRead old new read = Consumes old.to_come new.to_come read × (length read ≤ INPUT_BYTES)

-- the bytes are the whole input, which is shorter than what a run reads
abbrev pub AreAll : {S : Type 0} → Point S → List ℕ → Type 0
AreAll new read = IsAtEnd new.to_come × (length read < INPUT_BYTES)

-- How a run ends that began at the one point, at the other.
--
-- Finished: no byte is to come, and all lines were answered up to quit; or a line that LF ended is quit. ReadFault: a
-- read failed or all that a run reads was read, no line that LF ended is quit, and all those were answered. WriteFault:
-- a write or flush of the reply to a line that was read failed.
abbrev pub Ends : {S : Type 0} → ReplyRule S → (Line → Bool) → End → Point S → Point S → Type 0
Ends reply quit Finished old new =
    (new.read_failed ≡ false) × (new.answers.failed ≡ false) × ((read : List ℕ) × WereRead old new read
    × ((AreAll new read × Served reply (before_quit quit (all_lines read)) old.answers new.answers)
    ⊎ ((has_quit quit (ended_lines read) ≡ true)
    × Served reply (before_quit quit (ended_lines read)) old.answers new.answers)))
Ends reply quit ReadFault old new =
    (new.answers.failed ≡ false) × ((read : List ℕ) × WereRead old new read
    × ((new.read_failed ≡ true) ⊎ (length read ≡ INPUT_BYTES)) × (has_quit quit (ended_lines read) ≡ false)
    × Served reply (ended_lines read) old.answers new.answers)
Ends reply quit WriteFault old new =
    (new.read_failed ≡ false) × (new.answers.failed ≡ true) × ((read : List ℕ) × WereRead old new read
    × ((AreAll new read × BreaksOff reply quit (all_lines read) old.answers new.answers)
    ⊎ BreaksOff reply quit (ended_lines read) old.answers new.answers))

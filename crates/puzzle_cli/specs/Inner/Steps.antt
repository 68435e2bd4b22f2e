-- The steps of a run, one line, byte or piece at a time.
use Rattle.std.specs.Prelude.{◌≡◌, Bool, true, false, List}
use Rattle.line_replies.specs.Lines.{Line, ReplyRule}
use Rattle.puzzle_cli.specs.Runs.{Progress, Served, BreaksOff}
use Rattle.line_replies.specs.InTurn.{has_quit, before_quit}
use Rattle.puzzle_cli.specs.declared.line.line_loop.Flow.{Flow}
use Rattle.puzzle_cli.specs.declared.line.line_loop.Flow.TheVariants.{More, Quit, Unsent}

-- the lines were answered and none is quit; one is quit and those before it were answered; or an answer didn't go out
abbrev pub ComeTo : {S : Type 0} → ReplyRule S → (Line → Bool) → Flow → List Line → Progress S → Progress S → Type 0
ComeTo reply quit More lines old new = (has_quit quit lines ≡ false) × (new.failed ≡ false) × Served reply lines old new
ComeTo reply quit Quit lines old new =
    (has_quit quit lines ≡ true) × (new.failed ≡ false) × Served reply (before_quit quit lines) old new
ComeTo reply quit Unsent lines old new = (new.failed ≡ true) × BreaksOff reply quit lines old new

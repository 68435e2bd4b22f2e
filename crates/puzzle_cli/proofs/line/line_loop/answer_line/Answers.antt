use Rattle.std.specs.Option.{option_copied}
use Rattle.puzzle_cli.specs.Runs.{progress_at}
use Rattle.line_replies.specs.Texts.{text_bytes}
use Rattle.puzzle_cli.proofs.LinesInTurn.{ComeTo-unsent}
use Rattle.puzzle_cli.proofs.line.line_loop.answer_line.Goals as goal

pub returns-in-Err-clause-goes : goal.returns-in-Err-clause-goes
returns-in-Err-clause-goes g c =
    let old = progress_at g.W.Sink c.args.machine.now c.args.sink.now in
    let new = progress_at g.W.Sink c.answer.new.self c.send.new.sink in
    let went = c.in-Err.ensures.err in
    ComeTo-unsent g.M.Machine.reply g.M.Machine.is_quit (option_copied c.args.line) old new (text_bytes c.in-Reply.text) went.0
    c.in-Err.ensures.failed c.in-Reply.ensures.1 (rw c.as_bytes.ensures at went.1)

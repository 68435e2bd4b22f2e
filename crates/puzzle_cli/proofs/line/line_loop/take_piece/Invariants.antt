use Rattle.std.proofs.Common.{◌≡◌, take}
use Rattle.puzzle_cli.specs.Inner.LineBuffer.{ended_from, last_from}
use Rattle.puzzle_cli.specs.Runs.{progress_at}
use Rattle.puzzle_cli.specs.Inner.Steps.{ComeTo}
use Rattle.puzzle_cli.specs.declared.line.line_loop.Flow.TheVariants.{More}
use Rattle.puzzle_cli.proofs.line.line_loop.take_piece.Given as goal

-- the lines that ended so far were answered
abbrev pub invariant-loop-byte : goal.invariant-loop-byte
invariant-loop-byte g l = record {
  answered : ComeTo g.M.Machine.reply g.M.Machine.is_quit More (ended_from l.fn.line (take l.byte-index l.piece))
      (progress_at g.W.Sink l.fn.machine l.fn.sink) (progress_at g.W.Sink l.machine l.sink);
  flushed : g.W.Sink.flushed l.fn.sink ≡ g.W.Sink.taken l.fn.sink → g.W.Sink.flushed l.sink ≡ g.W.Sink.taken l.sink;
  rest : l.line ≡ last_from l.fn.line (take l.byte-index l.piece);
}

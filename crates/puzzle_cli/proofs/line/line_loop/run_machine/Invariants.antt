use Rattle.std.proofs.Common.{◌≡◌, ◌-◌, ◌≤◌, false}
use Rattle.puzzle_cli.specs.declared.line.line_loop.TheConstants.{INPUT_BYTES}
use Rattle.puzzle_cli.specs.Runs.{point_at}
use Rattle.puzzle_cli.proofs.BytesRead.{HasRead}
use Rattle.puzzle_cli.proofs.line.line_loop.run_machine.Given as goal

-- the lines that ended in what was read were answered
abbrev pub invariant-loop-count : goal.invariant-loop-count
invariant-loop-count g l = record {
  within : l.count ≤ INPUT_BYTES;
  works : g.R.Source.has_failed l.source ≡ false;
  flushed : g.W.Sink.flushed l.fn.sink ≡ g.W.Sink.taken l.fn.sink → g.W.Sink.flushed l.sink ≡ g.W.Sink.taken l.sink;
  so_far : HasRead g.M.Machine.reply g.M.Machine.is_quit
      (point_at g.R.Source g.W.Sink l.fn.machine l.fn.source l.fn.sink)
      (point_at g.R.Source g.W.Sink l.machine l.source l.sink) l.count l.line;
}

abbrev pub decreases-loop-count : goal.decreases-loop-count
decreases-loop-count g l = INPUT_BYTES - l.count

use Rattle.std.proofs.Common.{length, ◌-◌, ◌≡◌, ◌≤◌, false, is_some, take}
use Rattle.std.specs.Io.KnownBytes.{Appends}
use Rattle.puzzle_cli.proofs.line.line_loop.send.Given as goal

-- the bytes so far were taken
abbrev pub invariant-loop-sent : goal.invariant-loop-sent
invariant-loop-sent g l = record {
  within : l.sent ≤ length l.bytes;
  works : g.W.Sink.has_failed l.sink ≡ false;
  flushed : g.W.Sink.flushed l.sink ≡ g.W.Sink.flushed l.fn.sink;
  told : is_some (g.W.Sink.taken l.sink) ≡ is_some (g.W.Sink.taken l.fn.sink);
  took : Appends (g.W.Sink.taken l.fn.sink) (g.W.Sink.taken l.sink) (take l.sent l.bytes);
}

abbrev pub decreases-loop-sent : goal.decreases-loop-sent
decreases-loop-sent g l = length l.bytes - l.sent

use Rattle.std.proofs.Common.{rules, arith, ◌∙◌}
use Rattle.puzzle_cli.proofs.BytesSent.{Appends-piece}
use Rattle.puzzle_cli.proofs.line.line_loop.send.Goals as goal

pub loop-sent-preserved : goal.loop-sent-preserved
loop-sent-preserved g c = record {
  within = omega (arith, c.in_ok-count.ensures.bound);
  works = search rules;
  flushed = c.write.ensures.flushed ∙ c.loop-sent.invariant.flushed;
  told = c.write.ensures.told ∙ c.loop-sent.invariant.told;
  took = Appends-piece _ _ _ c.args.bytes.now c.loop-sent.sent c.in_ok-count.count c.loop-sent.invariant.took c.in_ok-count.ensures.bytes;
}

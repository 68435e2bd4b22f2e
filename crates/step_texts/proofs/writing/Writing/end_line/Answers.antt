use Rattle.std.proofs.Common.{arith}
use Rattle.std.specs.Prelude.{is_ok}
use Rattle.step_texts.proofs.ShortLines.{one_more}
use Rattle.step_texts.proofs.writing.Writing.end_line.Goals as goal

pub invariant_of-self : goal.invariant_of-self
invariant_of-self c = record {
  short = one_more (is_ok c.push.result) c.args.self.now.lines.items c.push.new.self.items c.take-line.result c.push.ensures.items
      (omega (arith, c.len-fits.ensures.value, c.len-fits.ensures.fits)) c.args.self.now.short;
}

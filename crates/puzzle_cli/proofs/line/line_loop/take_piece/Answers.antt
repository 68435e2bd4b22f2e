use Rattle.std.proofs.Common.{◌+◌, ◌∙◌}
use Rattle.puzzle_cli.specs.Runs.{progress_at}
use Rattle.puzzle_cli.specs.declared.line.line_loop.Flow.TheVariants.{More}
use Rattle.puzzle_cli.proofs.BytesRead.{ComeTo-byte, ComeTo-stopped, last_from-byte}
use Rattle.puzzle_cli.proofs.line.line_loop.take_piece.Goals as goal

pub returns-in_default-clause-goes : goal.returns-in_default-clause-goes
returns-in_default-clause-goes g c =
    let reply = g.M.Machine.reply in
    let quit = g.M.Machine.is_quit in
    let piece = c.args.piece.now in
    let part = c.args.line.now in
    let i = c.loop-byte.byte-index in
    let old = progress_at g.W.Sink c.args.machine.now c.args.sink.now in
    let mid = progress_at g.W.Sink c.loop-byte.machine c.loop-byte.sink in
    let new = progress_at g.W.Sink c.take_byte.new.machine c.take_byte.new.sink in
    let goes = ComeTo-byte reply quit c.take_byte.result part c.loop-byte.line piece i old mid new c.loop-byte-test.true
    c.loop-byte.invariant.answered c.loop-byte.invariant.rest c.take_byte.ensures.goes in
    ComeTo-stopped reply quit c.take_byte.result part piece (i + 1) old new c.in_default.not-More goes

pub returns-in_default-clause-line : goal.returns-in_default-clause-line
returns-in_default-clause-line g c = λ more. absurd (c.in_default.not-More more)

pub loop-byte-preserved : goal.loop-byte-preserved
loop-byte-preserved g c =
    let piece = c.args.piece.now in
    let part = c.args.line.now in
    let i = c.loop-byte.byte-index in
    let old = progress_at g.W.Sink c.args.machine.now c.args.sink.now in
    let mid = progress_at g.W.Sink c.loop-byte.machine c.loop-byte.sink in
    let new = progress_at g.W.Sink c.take_byte.new.machine c.take_byte.new.sink in
    record {
      answered = ComeTo-byte g.M.Machine.reply g.M.Machine.is_quit More part c.loop-byte.line piece i old mid new c.loop-byte-test.true
          c.loop-byte.invariant.answered c.loop-byte.invariant.rest c.in-More.ensures.goes;
      flushed = λ before. c.in-More.ensures.flushed (c.loop-byte.invariant.flushed before) (λ e. cc);
      rest = c.in-More.ensures.line ∙ last_from-byte part c.loop-byte.line piece i c.loop-byte-test.true c.loop-byte.invariant.rest;
    }

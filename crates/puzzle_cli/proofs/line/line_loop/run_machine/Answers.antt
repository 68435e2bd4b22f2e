use Rattle.std.proofs.Common.{◌≡◌, arith, refl, inl, inr}
use Rattle.puzzle_cli.specs.declared.line.line_loop.TheConstants.{INPUT_BYTES}
use Rattle.puzzle_cli.specs.Runs.{point_at}
use Rattle.puzzle_cli.proofs.BytesRead.{ReadFault-ends, stays_read, Finished-at-end, WriteFault-at-end, reads_on, Finished-at-quit, WriteFault-in-piece}
use Rattle.puzzle_cli.proofs.line.line_loop.run_machine.Goals as goal

-- a read failed
pub returns-in_default-clause-ends : goal.returns-in_default-clause-ends
returns-in_default-clause-ends g c =
    let old = point_at g.R.Source g.W.Sink c.args.machine.now c.args.source.now c.args.sink.now in
    let new = point_at g.R.Source g.W.Sink c.loop-count.machine c.read_piece.new.source c.loop-count.sink in
    let so_far = stays_read {old = old} c.loop-count.invariant.so_far new c.in_default.ensures.err refl in
    ReadFault-ends {old = old} so_far c.loop-count.invariant.within (inl c.in_default.ensures.failed)

-- the input is at its end
pub returns-in-Unsent-clause-ends : goal.returns-in-Unsent-clause-ends
returns-in-Unsent-clause-ends g c =
    let old = point_at g.R.Source g.W.Sink c.args.machine.now c.args.source.now c.args.sink.now in
    let new = point_at g.R.Source g.W.Sink c.end_line.new.machine c.read_piece.new.source c.end_line.new.sink in
    WriteFault-at-end {old = old} c.loop-count.invariant.so_far new c.loop-count-test.true c.in-Ok.len c.read_piece.new.piece c.if-len-eq0.true
    c.in-Ok.ensures.ok (c.in-Ok.ensures.end c.if-len-eq0.true) c.in-Ok.ensures.failed c.in-Unsent.ensures.goes

pub returns-in_default-end_line-clause-ends : goal.returns-in_default-end_line-clause-ends
returns-in_default-end_line-clause-ends g c =
    let old = point_at g.R.Source g.W.Sink c.args.machine.now c.args.source.now c.args.sink.now in
    let new = point_at g.R.Source g.W.Sink c.end_line.new.machine c.read_piece.new.source c.end_line.new.sink in
    Finished-at-end {old = old} c.loop-count.invariant.so_far new c.loop-count-test.true c.in-Ok.len c.read_piece.new.piece c.if-len-eq0.true
    c.in-Ok.ensures.ok (c.in-Ok.ensures.end c.if-len-eq0.true) c.in-Ok.ensures.failed
    c.end_line.result c.in_default-end_line.not-Unsent c.end_line.ensures.goes

-- the lines of a piece were answered
pub loop-count-preserved : goal.loop-count-preserved
loop-count-preserved g c =
    let old = point_at g.R.Source g.W.Sink c.args.machine.now c.args.source.now c.args.sink.now in
    let new = point_at g.R.Source g.W.Sink c.take_piece.new.machine c.read_piece.new.source c.take_piece.new.sink in
    record {
      within = omega (arith, c.in-Ok.ensures.bound);
      works = c.in-Ok.ensures.failed;
      flushed = λ before. c.in-More.ensures.flushed (c.loop-count.invariant.flushed before) (λ e. cc);
      so_far = reads_on {old = old} c.loop-count.invariant.so_far new c.in-Ok.len c.read_piece.new.piece (omega (arith, c.in-Ok.ensures.bound))
          c.in-Ok.ensures.ok c.take_piece.new.line c.in-More.ensures.goes (c.in-More.ensures.line refl);
    }

pub returns-in-Quit-clause-ends : goal.returns-in-Quit-clause-ends
returns-in-Quit-clause-ends g c =
    let old = point_at g.R.Source g.W.Sink c.args.machine.now c.args.source.now c.args.sink.now in
    let new = point_at g.R.Source g.W.Sink c.take_piece.new.machine c.read_piece.new.source c.take_piece.new.sink in
    Finished-at-quit {old = old} c.loop-count.invariant.so_far new c.in-Ok.len c.read_piece.new.piece (omega (arith, c.in-Ok.ensures.bound))
    c.in-Ok.ensures.ok (omega (arith, c.in-Ok.ensures.bound)) c.in-Ok.ensures.failed c.in-Quit.ensures.goes

pub returns-in-Unsent-take_piece-clause-ends : goal.returns-in-Unsent-take_piece-clause-ends
returns-in-Unsent-take_piece-clause-ends g c =
    let old = point_at g.R.Source g.W.Sink c.args.machine.now c.args.source.now c.args.sink.now in
    let new = point_at g.R.Source g.W.Sink c.take_piece.new.machine c.read_piece.new.source c.take_piece.new.sink in
    WriteFault-in-piece {old = old} c.loop-count.invariant.so_far new c.in-Ok.len c.read_piece.new.piece (omega (arith, c.in-Ok.ensures.bound))
    c.in-Ok.ensures.ok (omega (arith, c.in-Ok.ensures.bound)) c.in-Ok.ensures.failed c.in-Unsent-take_piece.ensures.goes

-- all that a run reads was read
pub returns-clause-ends : goal.returns-clause-ends
returns-clause-ends g c =
    let old = point_at g.R.Source g.W.Sink c.args.machine.now c.args.source.now c.args.sink.now in
    let full : c.loop-count.count ≡ INPUT_BYTES = omega (arith, c.loop-count.invariant.within) in
    ReadFault-ends {old = old} c.loop-count.invariant.so_far c.loop-count.invariant.within (inr full)

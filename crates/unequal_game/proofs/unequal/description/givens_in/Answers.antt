use Rattle.std.proofs.Common.{◌≡◌, ◌<◌, ◌∙◌, refl, ap, length, arith}
use Rattle.std.proofs.Math.ListN.{length-set}
use Rattle.std.proofs.lemmas.List.{length-map}
use Rattle.unequal_game.specs.Inner.UnequalPieces.{texts_of}
use Rattle.unequal_game.proofs.UnequalGivens.{good_more, numbers_more, bad_piece, piece_here, givens_read}
use Rattle.unequal_game.proofs.unequal.description.givens_in.Goals as goal

pub loop-cell-preserved : goal.loop-cell-preserved
loop-cell-preserved c =
    let pieces = texts_of c.args.pieces.now in
    let before = c.loop-cell.invariant in
    let count : length pieces ≡ length c.args.pieces.now = length-map c.args.pieces.now (λ p. p.now) in
    let inside : c.loop-cell.cell < length pieces = omega arith in
    let here =
    piece_here c.args.pieces.now c.loop-cell.cell c.args.size _ _ c.loop-cell-test.true c.number_in.ensures ∙ c.in_ok-number_in.was in
    record {
      size = c.set.ensures.size ∙ before.size;
      count = ap length c.set.ensures.numbers ∙ length-set c.loop-cell.givens.numbers c.loop-cell.cell _ ∙ before.count;
      good = good_more c.args.size c.loop-cell.cell _ pieces inside before.good here;
      numbers =
          rw c.set.ensures.numbers
          (numbers_more c.args.size c.loop-cell.cell _ pieces c.loop-cell.givens.numbers inside (omega arith) here before.numbers);
    }

pub returns : goal.returns
returns c =
    let count : length (texts_of c.args.pieces.now) ≡ length c.args.pieces.now = length-map c.args.pieces.now (λ p. p.now) in
    givens_read c.args.size c.loop-cell.cell c.loop-cell.givens (texts_of c.args.pieces.now) c.loop-cell.invariant.size
    (omega (arith, c.loop-cell.invariant.count)) (omega arith) c.loop-cell.invariant.good c.loop-cell.invariant.numbers

pub returns-in_err-number_in : goal.returns-in_err-number_in
returns-in_err-number_in c =
    let pieces = texts_of c.args.pieces.now in
    let count : length pieces ≡ length c.args.pieces.now = length-map c.args.pieces.now (λ p. p.now) in
    let inside : c.loop-cell.cell < length pieces = omega arith in
    let none =
    piece_here c.args.pieces.now c.loop-cell.cell c.args.size _ _ c.loop-cell-test.true c.number_in.ensures ∙ c.in_err-number_in.was in
    rw (c.from_residual.ensures, bad_piece c.args.size c.loop-cell.cell pieces inside none) refl

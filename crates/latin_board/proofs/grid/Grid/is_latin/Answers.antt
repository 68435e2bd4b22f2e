use Rattle.std.proofs.Common.{◌<◌, ◌*◌, true, false, refl, below_more, arith}
use Rattle.std.proofs.lemmas.Bool.{false≢true}
use Rattle.std.proofs.lemmas.Bool.Decides.{same_from_decides}
use Rattle.latin_board.specs.Squares.{HasEachOnce, latin_test}
use Rattle.latin_board.specs.Lines.{line_of}
use Rattle.latin_board.proofs.LatinLines.{latin_line, latin_from_lines, latin_full}
use Rattle.latin_board.proofs.LatinTest.{latin_test_decides}
use Rattle.latin_board.proofs.grid.Grid.is_latin.Goals as goal

pub returns-then-not-has_each_once-clause-rule : goal.returns-then-not-has_each_once-clause-rule
returns-then-not-has_each_once-clause-rule c =
    let below : c.loop-line.line < 2 * c.args.self.now.size = omega arith in
    (λ yes. absurd (false≢true yes), λ latin. c.if-not-has_each_once.ensures.1 (latin_line c.args.self.now latin c.loop-line.line below))

pub returns-then-not-has_each_once-clause-test : goal.returns-then-not-has_each_once-clause-test
returns-then-not-has_each_once-clause-test c =
    same_from_decides false (latin_test c.args.self.now) (returns-then-not-has_each_once-clause-rule c) (latin_test_decides c.args.self.now)

pub loop-line-preserved : goal.loop-line-preserved
loop-line-preserved c =
    let g = c.args.self.now in
    below_more (λ line. HasEachOnce g.size (line_of g line)) c.loop-line.line c.loop-line.invariant (c.if-not-has_each_once.ensures.0 refl)

pub returns-clause-rule : goal.returns-clause-rule
returns-clause-rule c =
    (λ _. latin_from_lines c.args.self.now (λ line below. c.loop-line.invariant line (omega arith)), λ _. refl)

pub returns-clause-full : goal.returns-clause-full
returns-clause-full c = latin_full c.args.self.now ((returns-clause-rule c).0 refl)

pub returns-clause-test : goal.returns-clause-test
returns-clause-test c =
    same_from_decides true (latin_test c.args.self.now) (returns-clause-rule c) (latin_test_decides c.args.self.now)

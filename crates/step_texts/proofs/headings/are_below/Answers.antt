use Rattle.std.proofs.Common.{ℕ, ◌<◌, ◌^◌, subst, arith}
use Rattle.step_texts.proofs.HeadingTests.{below_high}
use Rattle.step_texts.proofs.headings.are_below.Goals as goal

pub returns-then-clue-ge16 : goal.returns-then-clue-ge16
returns-then-clue-ge16 c =
    let low : c.args.counts < 2 ^ 16 = subst (λ (n : ℕ). n < 2 ^ 16) c.bits.ensures (omega arith) in
    let some : 0 < c.args.counts = omega (arith, c.bits.ensures, c.from-bits.ensures) in
    below_high c.args.clue c.args.counts some low (omega arith)

use Rattle.std.proofs.Common.{◌≡◌, ℕ, ◌*◌, ◌^◌, ◌<◌, ◌∙◌, sym, subst, arith}
use Rattle.step_chains.proofs.Followed.{takes_inside, takes_outside}
use Rattle.step_chains.proofs.replays.take_from.Goals as goal

pub returns-then-cell-width : goal.returns-then-cell-width
returns-then-cell-width c =
    let low : c.args.values < 2 ^ 16 = subst (λ (n : ℕ). n < 2 ^ 16) c.bits-bits.ensures (omega arith) in
    takes_outside c.args.candidates.now c.args.cell c.args.values low
    (λ inside. let width : c.get-width.result ≡ c.args.candidates.now.size = c.get-width.ensures.value ∙ c.size.ensures.value in
    let there : c.args.cell < c.get-width.result * c.get-width.result =
    subst (λ (w : ℕ). c.args.cell < w * w) (sym width) inside in
    omega (arith, there, c.if-cell-width.true))

pub returns : goal.returns
returns c =
    let low : c.args.values < 2 ^ 16 = subst (λ (n : ℕ). n < 2 ^ 16) c.bits-bits.ensures (omega arith) in
    takes_inside c.args.candidates.now c.strike.new.candidates c.args.cell c.args.values low c.strike.ensures

use Rattle.std.proofs.Common.{◌≡◌, ℕ, ◌+◌, ◌/◌, ◌%◌, ap, ◌∙◌, arith}
use Rattle.latin_board.specs.Squares.{number_at}
use Rattle.step_chains.proofs.Unseen.{unseen_empty}
use Rattle.step_chains.proofs.view.unseen_in.Goals as goal

pub returns : goal.returns
returns c =
    let g = c.args.grid.now in
    let cell = c.args.cell in
    let width : c.get-width.result ≡ g.size = c.get-width.ensures.value ∙ c.size.ensures.value in
    let blank : number_at g cell ≡ 0 = omega (arith, c.get-number.ensures.value, c.if-number-ne0.false) in
    unseen_empty g cell (cell / c.get-width.result) (c.get-width.result + cell % c.get-width.result) c.numbers_on.result c.numbers_on-2.result c.union.result
    c.requires blank (ap (λ (w : ℕ). cell / w) width) (ap (λ (w : ℕ). w + cell % w) width) c.numbers_on.ensures c.numbers_on-2.ensures c.union.ensures.members

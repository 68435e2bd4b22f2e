use Rattle.std.proofs.Common.{sym, ◌∙◌, arith}
use Rattle.towers_game.specs.Rows.{May}
use Rattle.towers_game.proofs.StandingSets.{row_struck_at}
use Rattle.towers_game.proofs.towers.clue_rows.unfilled_row.Goals as goal

pub supported-kept-requires-clause-values : goal.supported-kept-requires-clause-values
supported-kept-requires-clause-values g c = λ k v low has.
    let width = c.get-width.ensures.value ∙ c.size.ensures.value in
    let may = c.may_row.ensures c.args.candidates.now c.args.place (sym width) c.requires.place c.left_row-left.ensures in
    let pair = ((may.each k (omega (arith, width, low)) v).0 has).0 in
    (pair.low, omega (arith, width, pair.high))

pub supported-kept-requires-clause-rest : goal.supported-kept-requires-clause-rest
supported-kept-requires-clause-rest g c = λ k past.
    let width = c.get-width.ensures.value ∙ c.size.ensures.value in
    let may = c.may_row.ensures c.args.candidates.now c.args.place (sym width) c.requires.place c.left_row-left.ensures in
    may.rest k (omega (arith, width, past))

pub returns : goal.returns
returns g c =
    let now = c.args.candidates.now in
    let width = c.get-width.ensures.value ∙ c.size.ensures.value in
    row_struck_at now.size c.get-width.result c.args.place c.args.clue (May c.args.look now) c.may_row.result c.supported-kept.result
    c.missing_row.result width c.size.ensures.valid.largest c.requires.place
    (c.may_row.ensures now c.args.place (sym width) c.requires.place c.left_row-left.ensures) c.supported-kept.ensures c.missing_row.ensures

use Rattle.std.proofs.Common.{ℕ, take, sym, ◌∙◌, subst, arith}
use Rattle.towers_game.specs.Rows.{May}
use Rattle.towers_game.specs.Inner.RowSets.{AreKept}
use Rattle.towers_game.proofs.StandingSets.{row_struck_at, still_within}
use Rattle.towers_game.proofs.towers.clue_rows.striking_row.Goals as goal

pub supported-kept-requires-clause-values : goal.supported-kept-requires-clause-values
supported-kept-requires-clause-values g c = λ k v low has.
    let width = c.get-width.ensures.value ∙ c.size.ensures.value in
    let may = c.may_row.ensures c.args.candidates.now c.args.place (sym width) c.requires.place c.left_row-left.ensures in
    let pair = ((may.each k (omega (arith, width, low)) v).0 has).0 in
    (pair.low, omega (arith, width, pair.high))

pub supported-kept-requires-clause-rest : goal.supported-kept-requires-clause-rest
supported-kept-requires-clause-rest g c = λ k past.
    let width = c.get-width.ensures.value ∙ c.size.ensures.value in
    let may = c.may_row.ensures c.args.candidates.now c.args.place (sym width) c.requires.place c.left_row-left.ensures in
    may.rest k (omega (arith, width, past))

pub returns-then-are_within : goal.returns-then-are_within
returns-then-are_within g c =
    let now = c.args.candidates.now in
    let width = c.get-width.ensures.value ∙ c.size.ensures.value in
    let sets = c.may_row.result in
    let kept = c.supported-kept.result in
    let may = c.may_row.ensures now c.args.place (sym width) c.requires.place c.left_row-left.ensures in
    let tested = subst (λ (n : ℕ). AreKept (take n sets) c.args.clue kept) width c.supported-kept.ensures in
    still_within now c.args.place c.args.clue (May c.args.look now) c.left_row-left.result sets kept c.size.ensures.valid.largest c.requires.place
    c.left_row-left.ensures may tested c.if-are_within.ensures

pub returns : goal.returns
returns g c =
    let now = c.args.candidates.now in
    let width = c.get-width.ensures.value ∙ c.size.ensures.value in
    row_struck_at now.size c.get-width.result c.args.place c.args.clue (May c.args.look now) c.may_row.result c.supported-kept.result
    c.missing_row.result width c.size.ensures.valid.largest c.requires.place
    (c.may_row.ensures now c.args.place (sym width) c.requires.place c.left_row-left.ensures) c.supported-kept.ensures c.missing_row.ensures

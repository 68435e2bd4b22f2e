use Rattle.std.proofs.Common.{◌≡◌, true, false, sym, ◌∙◌, ap, arith}
use Rattle.std.specs.Prelude.{not, ◌||◌, slice_index}
use Rattle.number_sets.specs.Sets.{has_number}
use Rattle.step_texts.specs.Headings.{are_beside}
use Rattle.step_texts.proofs.HeadingTests.{number_fails, one_fails}
use Rattle.step_texts.proofs.headings.numbers_pass.Goals as goal

pub returns-then-not-are_beside : goal.returns-then-not-are_beside
returns-then-not-are_beside c =
    let number = c.loop-number.number in
    let shows = c.args.shows.now in
    let test = are_beside c.args.beside c.args.clue in
    let has : has_number c.args.values number ≡ true = cc (c.has.ensures, c.if-has.true) in
    let fails : test (slice_index shows number) ≡ false = cc (c.counts_with.ensures, c.are_beside.ensures, c.if-not-are_beside.true) in
    sym (one_fails (λ n. not (has_number c.args.values n) || test (slice_index shows n)) 1 9
    number (omega arith) (omega arith) (number_fails (has_number c.args.values number) (test (slice_index shows number)) has fails))

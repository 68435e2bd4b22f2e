use Rattle.std.proofs.Common.{ℕ, List, ◌++◌, ◌∷◌, [], ap, ◌∙◌, sym, arith, lit<}
use Rattle.puzzle_gen.proofs.OrderPlaces.{length_range_made, range_more}
use Rattle.puzzle_gen.proofs.draws.first_numbers.Goals as goal

pub push-requires : goal.push-requires
push-requires c =
    let len = length_range_made c.loop-number.number c.loop-number.numbers.items c.loop-number.invariant in
    (lit< tt, omega arith)

pub loop-number-preserved : goal.loop-number-preserved
loop-number-preserved c =
    c.push.ensures.items ∙ ap (λ (xs : List ℕ). xs ++ c.loop-number.number ∷ []) c.loop-number.invariant ∙ sym (range_more c.loop-number.number)

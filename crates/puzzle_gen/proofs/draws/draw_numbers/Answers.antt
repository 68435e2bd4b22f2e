use Rattle.std.proofs.Common.{ℕ, ◌∙◌, ap, sym}
use Rattle.std.specs.List.{range_with_len}
use Rattle.puzzle_gen.specs.SeededSquares.{drawn_order}
use Rattle.puzzle_gen.proofs.OrderPlaces.{length_range_made, order_of_permutation, shuffled_whole, shuffled_drawn}
use Rattle.puzzle_gen.proofs.draws.draw_numbers.Goals as goal

pub draw_order-requires : goal.draw_order-requires
draw_order-requires g c =
    let made = c.as_mut_slice.ensures.value ∙ c.first_numbers-numbers.ensures in
    made ∙ ap (range_with_len 0) (sym (length_range_made c.args.count _ made))

pub returns-clause-permutation : goal.returns-clause-permutation
returns-clause-permutation g c =
    shuffled_whole c.args.count c.first_numbers-numbers.result.items c.as_mut_slice.result.now c.draw_order.new.numbers
    c.first_numbers-numbers.ensures c.as_mut_slice.ensures.value c.draw_order.ensures.permutation

pub returns-clause-order : goal.returns-clause-order
returns-clause-order g c = order_of_permutation c.args.count _ (returns-clause-permutation g c)

pub returns-clause-drawn : goal.returns-clause-drawn
returns-clause-drawn g c =
    shuffled_drawn (λ (n : ℕ). drawn_order n (g.R.Rng.stream c.args.rng.now)) c.args.count c.first_numbers-numbers.result.items
    c.as_mut_slice.result.now c.draw_order.new.numbers (g.R.Rng.stream c.draw_order.new.rng)
    c.first_numbers-numbers.ensures c.as_mut_slice.ensures.value c.draw_order.ensures.permutation c.draw_order.ensures.drawn

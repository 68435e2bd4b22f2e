use Rattle.std.proofs.Common.{ℕ, ◌+◌, ◌/◌, List, ◌++◌, map, length, take, sym, ◌∙◌, ap}
use Rattle.fair_games.specs.Draws.{in_turn}
use Rattle.fair_games.specs.declared.trial.Trial.{Trial}
use Rattle.fair_games.proofs.Trials.{put_two, put_three}
use Rattle.fair_games.proofs.draws.put_in_turn.Goals as goal

pub returns-in-GivensFirst : goal.returns-in-GivensFirst
returns-in-GivensFirst c =
    let m = length c.args.clues.now in
    put_two c.new-order.result.items c.add_items-in-GivensFirst.new.order.items c.add_items-in-GivensFirst-2.new.order.items
    (map (λ i. m + i) c.args.givens.now) c.args.clues.now c.new-order.ensures c.add_items-in-GivensFirst.ensures c.add_items-in-GivensFirst-2.ensures
    ∙ ap (λ (t : Trial). in_turn t m c.args.clues.now c.args.givens.now) (sym c.in-GivensFirst.is)

pub returns-in-HalfFirst : goal.returns-in-HalfFirst
returns-in-HalfFirst c =
    let m = length c.args.clues.now in
    let front : List ℕ → List ℕ → List ℕ = λ xs ys. (xs ++ map (λ i. m + i) c.args.givens.now) ++ ys in
    put_three c.new-order.result.items c.add_items-in-HalfFirst.new.order.items c.add_items-in-HalfFirst-2.new.order.items
    c.add_items-in-HalfFirst-3.new.order.items c.split_at.result.0.now (map (λ i. m + i) c.args.givens.now) c.split_at.result.1.now c.new-order.ensures
    c.add_items-in-HalfFirst.ensures c.add_items-in-HalfFirst-2.ensures c.add_items-in-HalfFirst-3.ensures
    ∙ ap (λ (xs : List ℕ). front xs c.split_at.result.1.now) c.split_at.ensures.front
    ∙ ap (λ (ys : List ℕ). front (take (m / 2) c.args.clues.now) ys) c.split_at.ensures.back
    ∙ ap (λ (t : Trial). in_turn t m c.args.clues.now c.args.givens.now) (sym c.in-HalfFirst.is)

use Rattle.std.proofs.Common.{ℕ, ◌+◌, List, sym, subst}
use Rattle.fair_games.specs.Pruned.{IsTrial, IsTried}
use Rattle.fair_games.proofs.Trials.{trial_in_turn, tried_in_turn, turn_drawn, turn_made}
use Rattle.fair_games.proofs.draws.draw_trial.Goals as goal

pub returns : goal.returns
returns g c =
    let trial = c.args.trial in
    let m = c.args.clue_count in
    let n = c.args.cells in
    let clues = c.draw_numbers-clues.result.items in
    let givens = c.draw_numbers-givens.result.items in
    let order = c.put_in_turn.result.items in
    let first = c.draw_numbers-clues.ensures.permutation in
    let second = c.draw_numbers-givens.ensures.permutation in
    let made =
    turn_made trial m c.as_slice.result.now c.as_slice-2.result.now clues givens order c.draw_numbers-clues.ensures.order.count
    c.as_slice.ensures.value c.as_slice-2.ensures.value c.put_in_turn.ensures in
    record {
      trial = subst (λ (xs : List ℕ). IsTrial (m + n) xs) (sym made) (trial_in_turn trial m n clues givens first second);
      tried = λ i below low. subst (IsTried i) (sym made) (tried_in_turn trial m n clues givens first second i below low);
      drawn = turn_drawn trial m n (g.R.Rng.stream c.args.rng.now) (g.R.Rng.stream c.draw_numbers-givens.new.rng)
          (g.R.Rng.stream c.draw_numbers-clues.new.rng) clues givens order c.draw_numbers-givens.ensures.drawn
          c.draw_numbers-clues.ensures.drawn made;
    }

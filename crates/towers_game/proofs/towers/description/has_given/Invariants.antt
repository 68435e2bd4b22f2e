use Rattle.std.proofs.Common.{◌≡◌, ◌==◌, not, drop}
use Rattle.std.specs.List.{list_any}
use Rattle.towers_game.proofs.towers.description.has_given.Given as goal

abbrev pub invariant-loop-cell : goal.invariant-loop-cell
invariant-loop-cell l =
    list_any (λ n. not (n == 0)) (drop l.cell l.givens.numbers) ≡ list_any (λ n. not (n == 0)) l.givens.numbers

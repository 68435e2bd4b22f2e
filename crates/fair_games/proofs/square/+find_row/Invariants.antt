use Rattle.std.proofs.Common.{◌≡◌, length, drop}
use Rattle.std.specs.List.{flat_map}
use Rattle.fair_games.proofs.RowSteps.{tries}
use Rattle.fair_games.proofs.square.+find_row.Given as goal

abbrev pub decreases-find_row : goal.decreases-find_row
decreases-find_row l = length l.columns.now

abbrev pub invariant-loop-k : goal.invariant-loop-k
invariant-loop-k l = (l.chosen.items ≡ l.fn.chosen.items)
    × (flat_map (tries l.fn.grid l.numbers l.column l.rest l.fn.chosen.items) l.numbers
    ≡ flat_map (tries l.fn.grid l.numbers l.column l.rest l.fn.chosen.items) (drop l.k l.numbers))

use Rattle.std.proofs.Common.{◌≡◌, ◌≤◌, ◌++◌, length, map, option_map}
use Rattle.unequal_game.specs.Laws.Pieces.{comma_pieces, pieces_left}
use Rattle.unequal_game.proofs.unequal.pieces.split_at_commas.Given as goal

abbrev pub invariant-loop-rest : goal.invariant-loop-rest
invariant-loop-rest l = record {
  split : map (λ p. p.now) l.pieces.items ++ pieces_left (option_map (λ r. r.now) l.rest) ≡ comma_pieces l.text;
  room : length l.pieces.items ≤ l.wanted;
}

abbrev pub decreases-loop-rest : goal.decreases-loop-rest
decreases-loop-rest l = length (pieces_left (option_map (λ r. r.now) l.rest))

use Rattle.std.proofs.Common.{length, option_map}
use Rattle.towers_game.proofs.CluePartLemmas.{fields_left, FillsClues}
use Rattle.towers_game.proofs.towers.description.fill_clues.Given as goal

abbrev pub invariant-loop-rest : goal.invariant-loop-rest
invariant-loop-rest l = FillsClues l.size l.part (option_map (λ r. r.now) l.rest) l.place l.clues

abbrev pub decreases-loop-rest : goal.decreases-loop-rest
decreases-loop-rest l = length (fields_left (option_map (λ r. r.now) l.rest))

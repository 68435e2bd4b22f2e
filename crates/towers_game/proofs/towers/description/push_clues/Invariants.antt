use Rattle.std.proofs.Common.{◌≡◌, ◌++◌, take}
use Rattle.towers_game.proofs.CluePartLemmas.{slashed}
use Rattle.towers_game.proofs.towers.description.push_clues.Given as goal

abbrev pub invariant-loop-clue : goal.invariant-loop-clue
invariant-loop-clue l = l.text.items ≡ l.initial.text.items ++ slashed (take l.clue-index l.others)

-- No reading of a description of Towers is refused for memory.
use Rattle.std.proofs.Common.{arith, ℕ, List, Option, Some, None}
use Rattle.std.proofs.lemmas.Bool.Decides.{nat_tests}
use Rattle.game_texts.specs.IdFaults.{NotForMemory}
use Rattle.towers_game.specs.TowersText.{clues_at, givens_at, givens_behind, towers_at}
use Rattle.game_texts.specs.Laws.NotForMemory.{not_for_memory-then, not_for_memory-if, exactly_not_for_memory}

clues_not_for_memory : (w : ℕ) (part : List ℕ) → NotForMemory (clues_at w part)
unfolding clues_at
clues_not_for_memory w part = grind (arith, nat_tests, not_for_memory-then, exactly_not_for_memory, not_for_memory-if)

givens_not_for_memory : (w : ℕ) (part : List ℕ) → NotForMemory (givens_at w part)
unfolding givens_at
givens_not_for_memory w part = grind (arith, nat_tests, not_for_memory-if, exactly_not_for_memory)

behind_not_for_memory : (w : ℕ) (part : Option (List ℕ)) → NotForMemory (givens_behind w part)
behind_not_for_memory w None = tt
behind_not_for_memory w (Some part) = givens_not_for_memory w part

-- no reading of a whole description is refused for memory
pub towers_not_for_memory : (w : ℕ) (text : List ℕ) → NotForMemory (towers_at w text)
unfolding towers_at
towers_not_for_memory w text =
    grind (arith, nat_tests, not_for_memory-then, clues_not_for_memory, behind_not_for_memory)

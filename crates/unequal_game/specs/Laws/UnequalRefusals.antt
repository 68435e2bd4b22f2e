-- No reading of a description of Unequal is refused for memory.
use Rattle.std.proofs.Common.{arith, ℕ, List}
use Rattle.std.proofs.lemmas.Bool.Decides.{nat_tests}
use Rattle.game_texts.specs.IdFaults.{NotForMemory}
use Rattle.unequal_game.specs.UnequalText.{unequal_at}
use Rattle.game_texts.specs.Laws.NotForMemory.{not_for_memory-then, not_for_memory-if, exactly_not_for_memory}

pub unequal_not_for_memory : (w : ℕ) (text : List ℕ) → NotForMemory (unequal_at w text)
unfolding unequal_at
unequal_not_for_memory w text = grind (arith, nat_tests, not_for_memory-then, exactly_not_for_memory, not_for_memory-if)

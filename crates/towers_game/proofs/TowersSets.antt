-- The strikes of clues, as sets.
use Rattle.std.proofs.lemmas.Bool.Decides.{nat_tests}
use Rattle.std.proofs.Common.{◌≡◌, ◌≢◌, ◌↔◌, ℕ, ◌*◌, ◌<◌, true, arith}
use Rattle.number_sets.specs.Sets.{has_number}
use Rattle.trail_solver.specs.Pairs.{IsPair}
use Rattle.towers_game.specs.Towers.{TowersValue, clue_of}
use Rattle.towers_game.specs.Fillings.{IsUnfilled}
use Rattle.towers_game.specs.TowersReasons.{IsByClue}

-- the clue of a place strikes just the values that no filling from there has
pub clue_struck : (p : TowersValue) (w : ℕ) (May : ℕ → ℕ → Type 0) (place clue cell result v : ℕ) → w ≡ p.size → place < 4 * w
    → clue ≡ clue_of p place → clue ≢ 0 → (has_number result v ≡ true) ↔ (IsPair w cell v × IsUnfilled w May place clue cell v)
    → (has_number result v ≡ true) ↔ (IsPair w cell v × IsByClue p May place cell v)
clue_struck p w May place clue cell result v size place_in is some tested = grind (arith, nat_tests)

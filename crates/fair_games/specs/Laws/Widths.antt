-- How many items there are beside the givens.
use Rattle.std.proofs.lemmas.Bool.Decides.{nat_tests}
use Rattle.std.specs.Prelude.{ℕ, ◌+◌, ◌*◌, ◌≤◌}
use Rattle.std.proofs.Common.{arith}
use Rattle.towers_game.specs.Towers.{towers_items}
use Rattle.unequal_game.specs.Unequal.{unequal_items}
use Rattle.trail_solver.proofs.KeptItems.{small_widths}

-- a property of 3, 4, 5, 6, 7, 8 and 9 is one of each width from 3 to 9
widths : (Holds : ℕ → Type 0) → Holds 3 → Holds 4 → Holds 5 → Holds 6 → Holds 7 → Holds 8 → Holds 9 → (w : ℕ) → 3 ≤ w
    → w ≤ 9 → Holds w
widths Holds three four five six seven eight nine w low high = grind (arith, nat_tests, small_widths)

pub towers_some : (w : ℕ) → 3 ≤ w → w ≤ 9 → w * w ≤ towers_items w
towers_some w low high = omega arith

pub towers_few : (w : ℕ) → 3 ≤ w → w ≤ 9 → towers_items w ≤ w * w + 144
towers_few w low high = omega arith

pub unequal_some : (w : ℕ) → 3 ≤ w → w ≤ 9 → w * w ≤ unequal_items w
unequal_some w low high = grind (arith, nat_tests, widths)

pub unequal_few : (w : ℕ) → 3 ≤ w → w ≤ 9 → unequal_items w ≤ w * w + 144
unequal_few w low high = grind (arith, nat_tests, widths)

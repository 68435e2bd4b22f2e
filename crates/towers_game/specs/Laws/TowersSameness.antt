-- A test that computes whether two Towers puzzles are equal, and that its answer is right.
use Rattle.std.specs.Prelude.{◌≡◌, Bool, ◌==◌, ◌&&◌}
use Rattle.std.specs.Bool.{Decides}
use Rattle.std.specs.Cmp.Lexicographic.{pointwise, bytes_decides}
use Rattle.std.proofs.Common.{ap}
use Rattle.std.proofs.lemmas.Bool.Decides.{Decides-like, Decides-and, Decides-eqb}
use Rattle.towers_game.specs.Towers.{TowersValue}

-- both puzzles have the same width, clues and givens
abbrev pub same_towers : TowersValue → TowersValue → Bool
same_towers p q = p.size == q.size && pointwise ◌==◌ p.clues q.clues && pointwise ◌==◌ p.givens q.givens

-- the test tells whether two puzzles are equal
pub same_towers_decides : (p q : TowersValue) → Decides (same_towers p q) (p ≡ q)
same_towers_decides p q =
    Decides-like (same_towers p q) (λ h i. record { size = h.0.0 i; clues = h.0.1 i; givens = h.1 i })
    (λ same. (
      (ap (λ (v : TowersValue). v.size) same, ap (λ (v : TowersValue). v.clues) same),
      ap (λ (v : TowersValue). v.givens) same,
    ))
    (Decides-and _ _ (Decides-and _ _ (Decides-eqb p.size q.size) (bytes_decides p.clues q.clues))
    (bytes_decides p.givens q.givens))

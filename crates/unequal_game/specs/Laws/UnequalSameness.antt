-- Equality of Unequal puzzles as a test that computes, and that it decides it.
use Rattle.std.specs.Prelude.{◌≡◌, ◌↔◌, IsTrue, Bool, ◌==◌, ◌&&◌}
use Rattle.std.specs.Bool.{Decides}
use Rattle.std.specs.Cmp.Lexicographic.{pointwise, pointwise_decides, bytes_decides}
use Rattle.std.proofs.Common.{ap}
use Rattle.std.proofs.lemmas.Bool.Decides.{Decides-at, Decides-like, Decides-and, Decides-eqb}
use Rattle.unequal_game.specs.declared.unequal.sign.Sign.{Sign}
use Rattle.unequal_game.specs.Unequal.{UnequalValue, sign_number}
use Rattle.unequal_game.specs.Laws.UnequalValues.{sign_same}

-- both signs are the same, by their numbers
abbrev pub same_sign : Sign → Sign → Bool
same_sign s t = sign_number s == sign_number t

-- both puzzles have the same width, signs and givens
abbrev pub same_unequal : UnequalValue → UnequalValue → Bool
same_unequal p q =
    p.size == q.size && pointwise same_sign p.right q.right && pointwise same_sign p.below q.below
    && pointwise ◌==◌ p.givens q.givens

same_sign_decides : (s t : Sign) → Decides (same_sign s t) (s ≡ t)
same_sign_decides s t =
    Decides-like (same_sign s t) (sign_same s t) (ap sign_number) (Decides-eqb (sign_number s) (sign_number t))

-- the test of two puzzles answers whether they are equal
pub same_unequal_decides : (p q : UnequalValue) → Decides (same_unequal p q) (p ≡ q)
same_unequal_decides p q =
    Decides-like (same_unequal p q)
    (λ h i. record { size = h.0.0.0 i; right = h.0.0.1 i; below = h.0.1 i; givens = h.1 i })
    (λ same. (
      (
        (ap (λ (v : UnequalValue). v.size) same, ap (λ (v : UnequalValue). v.right) same),
        ap (λ (v : UnequalValue). v.below) same,
      ),
      ap (λ (v : UnequalValue). v.givens) same,
    ))
    (Decides-and _ _
    (Decides-and _ _
    (Decides-and _ _ (Decides-eqb p.size q.size) (pointwise_decides same_sign_decides p.right q.right))
    (pointwise_decides same_sign_decides p.below q.below)) (bytes_decides p.givens q.givens))

-- a value that is known to be the answer of the test tells whether two puzzles are equal
pub same_unequal_tested : (p q : UnequalValue) (t : Bool) → t ≡ same_unequal p q → IsTrue t ↔ (p ≡ q)
same_unequal_tested p q t value = Decides-at _ _ value (same_unequal_decides p q)

-- Facts of two squares hold all along the list of them.
use Rattle.std.proofs.Common.{ℕ, zero, suc, ◌∷◌, [], arith}
use Rattle.std.specs.List.{All, AllPairs}

-- what holds of two squares holds of all in their list
pub two_all : (P : ℕ → Type 0) (a b : ℕ) → P a → P b → All P (a ∷ b ∷ [])
two_all P a b first second zero d low = first
two_all P a b first second (suc zero) d low = second
two_all P a b first second (suc (suc k)) d low = absurd (omega arith)

-- what holds between two squares holds between all pairs in their list
pub two_pairs : (R : ℕ → ℕ → Type 0) (a b : ℕ) → R a b → AllPairs R (a ∷ b ∷ [])
two_pairs R a b both zero zero d order low = absurd (omega arith)
two_pairs R a b both zero (suc zero) d order low = both
two_pairs R a b both zero (suc (suc j)) d order low = absurd (omega arith)
two_pairs R a b both (suc i) j d order low = absurd (omega arith)

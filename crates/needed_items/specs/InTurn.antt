-- Items that are tried one after another, over the ghost members of `Rules`.
use Rattle.std.specs.Prelude.{◌≡◌, ℕ, zero, suc, ◌⊎◌, List, [], ◌∷◌}
use Rattle.trail_solver.specs.Solutions.{HasSeveralSolutions}
use Rattle.trail_solver.specs.declared.rules.Rules.{Ghosts}
use Rattle.needed_items.specs.Needed.{all_but}
use Rattle.needed_items.specs.declared.order.Order.{Order}
use Rattle.needed_items.specs.declared.order.Order.TheVariants.{Falling, Listed}

-- the numbers below n, from the last to the first
abbrev pub falling : ℕ → List ℕ
falling zero = []
falling (suc n) = n ∷ falling n

-- the items of an order
abbrev pub items_in : Order → List ℕ
items_in (Falling count) = falling count
items_in (Listed items) = items.now

-- each item is tried in turn, in the puzzle that those before it left of p: it stays if that puzzle fails without it,
-- and goes otherwise; q is what is left
abbrev pub IsLeftInTurn : {P : Type 0} → Ghosts P → (P → Type 0) → List ℕ → P → P → Type 0
IsLeftInTurn f Fails [] p q = q ≡ p
IsLeftInTurn f Fails (item ∷ order) p q =
    (Fails (f.cut p (all_but item)) × IsLeftInTurn f Fails order p q)
    ⊎ ((Fails (f.cut p (all_but item)) → ⊥) × IsLeftInTurn f Fails order (f.cut p (all_but item)) q)

-- several grids are solutions
abbrev pub HasSeveral : {P : Type 0} → Ghosts P → P → Type 0
HasSeveral f p = HasSeveralSolutions (f.puzzle p)

-- The format, its puzzles: the pruned puzzle of a Latin square, an order of some of its items, and a test.
use Rattle.std.specs.Prelude.{◌≡◌, ℕ, ◌<◌, List, length, slice_index}
use Rattle.latin_board.specs.Squares.{GridValue, IsGrid, IsLatin}
use Rattle.trail_solver.specs.declared.rules.Rules.{Ghosts}
use Rattle.needed_items.specs.InTurn.{IsLeftInTurn}
use Rattle.puzzle_gen.specs.Orders.{place_in}

-- the list has numbers below n, none twice
pub record IsTrial (n : ℕ) (order : List ℕ) : Type 0 where
  pub items : (k : ℕ) → k < length order → slice_index order k < n
  pub places : (k : ℕ) → k < length order → place_in (slice_index order k) order ≡ k
  pub back : (i : ℕ) → place_in i order < length order → slice_index order (place_in i order) ≡ i

-- the item is tried
abbrev pub IsTried : ℕ → List ℕ → Type 0
IsTried i order = place_in i order < length order

-- g is a Latin square, and the order has some of its items, none twice; p is what is left of its full puzzle
-- when they are tried in turn: an item stays exactly if what is left then fails without it. The pruned puzzle
-- of `puzzle_gen` is this with all items tried, and there a puzzle fails that has several solutions
pub record IsPrunedBy {P : Type 0} (f : Ghosts P) (Fails : P → Type 0) (g : GridValue) (order : List ℕ)
    (p : P) : Type 0 where
  pub is_grid : IsGrid g
  pub is_latin : IsLatin g
  pub is_trial : IsTrial (f.items_of g.size) order
  pub in_turn : IsLeftInTurn f Fails order (f.full_of g) p

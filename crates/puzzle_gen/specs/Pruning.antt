-- The pruned puzzle of a Latin square and an order of the items, over the ghost members of `Rules`.
use Rattle.std.specs.Prelude.{ℕ, List}
use Rattle.latin_board.specs.Squares.{GridValue, IsGrid, IsLatin}
use Rattle.trail_solver.specs.declared.rules.Rules.{Ghosts}
use Rattle.needed_items.specs.InTurn.{HasSeveral, IsLeftInTurn}
use Rattle.puzzle_gen.specs.Orders.{IsOrder}

-- g is a Latin square, and the order has each of its items; p is what is left of its full puzzle when they are tried in
-- turn: an item stays exactly if what is left then has several solutions without it
pub record IsPruned {P : Type 0} (f : Ghosts P) (g : GridValue) (order : List ℕ) (p : P) : Type 0 where
  pub is_grid : IsGrid g
  pub is_latin : IsLatin g
  pub is_order : IsOrder (f.items_of g.size) order
  pub in_turn : IsLeftInTurn f (HasSeveral f) order (f.full_of g) p

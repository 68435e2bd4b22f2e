-- There is one pruned puzzle: the square is its only solution, and it needs all its items.
use Rattle.std.proofs.Common.{◌≡◌, ℕ, ◌*◌, ◌<◌, List, sym, ◌∙◌, subst, arith}
use Rattle.latin_board.specs.Squares.{GridValue, IsGrid, IsLatin}
use Rattle.latin_board.proofs.LatinLines.{latin_full}
use Rattle.latin_board.proofs.Numbers.{same_numbers}
use Rattle.trail_solver.specs.declared.rules.Rules.{Ghosts}
use Rattle.needed_items.specs.Needed.{HasOnly, all_but}
use Rattle.needed_items.specs.InTurn.{HasSeveral}
use Rattle.needed_items.proofs.ItemLaws.{ItemLaws, all_but_itself}
use Rattle.needed_items.proofs.InTurn.{cut_in_turn, in_turn_once, needed_in_turn, only_in_turn, several_kept}
use Rattle.puzzle_gen.specs.Orders.{place_in}
use Rattle.puzzle_gen.specs.Pruning.{IsPruned}
use Rattle.puzzle_gen.specs.Inner.OnePruned.{IsOnePruned}

-- a solution of the full puzzle has the square's numbers, which are all given
pub full_only : {P : Type 0} (f : Ghosts P) (g : GridValue) → ItemLaws f → IsGrid g → IsLatin g
    → HasOnly f g (f.full_of g)
full_only f g laws grid latin = record {
  solves = laws.full_solved g grid latin;
  only = λ h s.
      let size : h.size ≡ g.size = s.same_size ∙ laws.full_size g grid latin in
      same_numbers h g s.is_grid grid size (λ cell inside.
      let within : cell < g.size * g.size = subst (λ (n : ℕ). cell < n * n) size inside in
      let there : cell < (f.puzzle (f.full_of g)).size * (f.puzzle (f.full_of g)).size =
      subst (λ (n : ℕ). cell < n * n) s.same_size inside in
      let given = laws.full_given g cell grid latin within in
      let some : 0 < (f.puzzle (f.full_of g)).given cell =
      omega (arith, (latin_full g latin).each cell within, given) in
      s.givens cell there some ∙ given);
}

-- a pruned puzzle is the only one, its square its only solution, and each of its items needed
pub one_pruned : {P : Type 0} (f : Ghosts P) (g : GridValue) (order : List ℕ) (p : P) → ItemLaws f
    → IsPruned f g order p → IsOnePruned f g order p
one_pruned f g order p laws pruned =
    let full = f.full_of g in
    let valid = laws.full_valid g pruned.is_grid pruned.is_latin in
    let size = laws.full_size g pruned.is_grid pruned.is_latin in
    let cut = cut_in_turn f (HasSeveral f) order full p laws valid pruned.in_turn in
    record {
      pruned = pruned;
      just_one = λ other also. in_turn_once f (HasSeveral f) order full other p also.in_turn pruned.in_turn;
      valid = cut.valid;
      size = cut.size ∙ size;
      only_solution =
          only_in_turn f g order full p laws valid (full_only f g laws pruned.is_grid pruned.is_latin) pruned.in_turn;
      all_needed = λ i inside there.
          needed_in_turn f (HasSeveral f) order full p (place_in i order) i (all_but i) laws valid
          (several_kept f full laws valid) pruned.in_turn
          (omega (arith, pruned.is_order.inside i inside, pruned.is_order.count)) (pruned.is_order.back i inside)
          (subst (λ (n : ℕ). i < f.items_of n) (sym size) inside) there (all_but_itself i);
    }

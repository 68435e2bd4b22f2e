-- Items of which some are tried first, and then all.
use Rattle.std.proofs.lemmas.Bool.Decides.{nat_tests}
use Rattle.std.proofs.Common.{◌≡◌, ℕ, ◌<◌, ◌≤◌, List, ◌++◌, length, slice_index, subst, arith}
use Rattle.trail_solver.specs.declared.rules.Rules.{Ghosts}
use Rattle.needed_items.specs.Needed.{IsThinned}
use Rattle.needed_items.specs.InTurn.{IsLeftInTurn, falling}
use Rattle.needed_items.proofs.ItemLaws.{ItemLaws}
use Rattle.needed_items.proofs.InTurn.{length_falling, falling_at, cut_in_turn, in_turn_both}

-- each item of a falling order is below any number that the count isn't above
pub falling_within : (n m k : ℕ) → n ≤ m → k < length (falling n) → slice_index (falling n) k < m
falling_within n m k few inside = grind (arith, nat_tests, length_falling, falling_at)

-- what is left by the items below a number, and then by all, is left by both one after the other
pub left_by_both : {P : Type 0} (f : Ghosts P) (Fails : P → Type 0) (first count n : ℕ) (p mid q : P) → count ≡ n
    → IsLeftInTurn f Fails (falling first) p mid → IsLeftInTurn f Fails (falling count) mid q
    → IsLeftInTurn f Fails (falling first ++ falling n) p q
left_by_both f Fails first count n p mid q all one two =
    subst (λ (m : ℕ). IsLeftInTurn f Fails (falling first ++ falling m) p q) all (in_turn_both f Fails (falling first) (falling count) p mid q one two)

-- if a puzzle is left of p by some order, and is thinned from another one, it is thinned from p
pub thinned_before : {P : Type 0} (f : Ghosts P) (Passes Fails : P → Type 0) (order : List ℕ) (p mid q : P) → ItemLaws f → f.valid p
    → IsLeftInTurn f Fails order p q → IsThinned f Passes mid q → IsThinned f Passes p q
thinned_before f Passes Fails order p mid q laws valid tried thinned = record {
  is_cut = (cut_in_turn f Fails order p q laws valid tried).is_cut;
  valid = thinned.valid;
  passes = thinned.passes;
  needed = thinned.needed;
}

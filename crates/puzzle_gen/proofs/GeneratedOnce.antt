-- One result for each game, parameters and seed: a puzzle of the game, with one solution, that needs all its items.
use Rattle.std.proofs.lemmas.Bool.Decides.{nat_tests}
use Rattle.std.proofs.Common.{◌≡◌, ℕ, ◌<◌, true, false, Result, Ok, Err, None, Option, IsSome, IsTrue, refl, ap, subst, arith}
use Rattle.trail_solver.specs.Solutions.{HasSeveralSolutions, IsOnlySolution}
use Rattle.trail_solver.specs.declared.rules.Rules.{Ghosts}
use Rattle.game_texts.specs.declared.params.Params.{Params}
use Rattle.puzzle_gen.specs.declared.gen_fault.GenFault.{GenFault}
use Rattle.puzzle_gen.specs.declared.gen_fault.GenFault.TheVariants.{SizeTooLarge, Graded}
use Rattle.puzzle_gen.specs.SeededSquares.{square_of, trial_order}
use Rattle.needed_items.specs.Needed.{all_but}
use Rattle.puzzle_gen.specs.Generating.{Generates}
use Rattle.puzzle_gen.specs.Inner.OnePruned.{IsOnePruned}
use Rattle.needed_items.proofs.ItemLaws.{ItemLaws}
use Rattle.puzzle_gen.proofs.OnePruned.{one_pruned}

no_letter : (letter : Option ℕ) → letter ≡ None → IsSome letter → ⊥
no_letter letter none some = let h : false ≡ true = subst IsSome none some in cc

-- a generated puzzle is the one pruned puzzle of the seed
generated_one : {P : Type 0} (f : Ghosts P) (params : Params) (seed : ℕ) (p : P) → ItemLaws f
    → Generates f params seed (Ok p)
    → IsOnePruned f (square_of params.size seed) (trial_order (f.items_of params.size) params.size seed) p
generated_one f params seed p laws (small, none, pruned) = grind (arith, nat_tests, one_pruned)

-- two results of the same parameters and seed are the same
pub generates_once : {P : Type 0} (f : Ghosts P) (params : Params) (seed : ℕ) (r s : Result P GenFault) → ItemLaws f
    → Generates f params seed r → Generates f params seed s → r ≡ s
generates_once f params seed (Ok p) (Ok q) laws (small, none, first) second =
    ap Ok ((generated_one f params seed q laws second).just_one p first)
generates_once f params seed (Ok p) (Err SizeTooLarge) laws first second = absurd (omega (arith, first.0, second))
generates_once f params seed (Ok p) (Err Graded) laws first second = absurd (no_letter params.letter first.1 second.1)
generates_once f params seed (Err SizeTooLarge) (Ok q) laws first second = absurd (omega (arith, second.0, first))
generates_once f params seed (Err SizeTooLarge) (Err SizeTooLarge) laws first second = refl
generates_once f params seed (Err SizeTooLarge) (Err Graded) laws first second = absurd (omega (arith, first, second.0))
generates_once f params seed (Err Graded) (Ok q) laws first second = absurd (no_letter params.letter second.1 first.1)
generates_once f params seed (Err Graded) (Err SizeTooLarge) laws first second = absurd (omega (arith, first.0, second))
generates_once f params seed (Err Graded) (Err Graded) laws first second = refl

-- a generated puzzle is one of the game, of the size of the parameters
pub generated_valid : {P : Type 0} (f : Ghosts P) (params : Params) (seed : ℕ) (p : P) → ItemLaws f
    → Generates f params seed (Ok p) → f.valid p × ((f.puzzle p).size ≡ params.size)
generated_valid f params seed p laws gives =
    let one = generated_one f params seed p laws gives in (one.valid, one.size)

-- the seed's square is the only solution of a generated puzzle
pub generated_only : {P : Type 0} (f : Ghosts P) (params : Params) (seed : ℕ) (p : P) → ItemLaws f
    → Generates f params seed (Ok p) → IsOnlySolution (f.puzzle p) (square_of params.size seed)
generated_only f params seed p laws gives = (generated_one f params seed p laws gives).only_solution

-- a generated puzzle needs each of its items
pub generated_needed : {P : Type 0} (f : Ghosts P) (params : Params) (seed : ℕ) (p : P) → ItemLaws f
    → Generates f params seed (Ok p) → (i : ℕ) → i < f.items_of (f.puzzle p).size → IsTrue (f.has p i)
    → HasSeveralSolutions (f.puzzle (f.cut p (all_but i)))
generated_needed f params seed p laws gives i below =
    let one = generated_one f params seed p laws gives in
    one.all_needed i (subst (λ (w : ℕ). i < f.items_of w) one.size below)

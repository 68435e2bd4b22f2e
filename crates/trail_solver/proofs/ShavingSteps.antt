-- The steps of shaving: what each does to the solutions among the candidates.
use Rattle.std.proofs.Common.{arith}
use Rattle.std.proofs.lemmas.Bool.Decides.{nat_tests}
use Rattle.std.proofs.Common.{ℕ, Bool, true, refl}
use Rattle.std.specs.Bool.{OnFalse}
use Rattle.latin_board.specs.Squares.{GridValue}
use Rattle.trail_solver.specs.Candidates.{CandidatesValue}
use Rattle.trail_solver.specs.Puzzles.{Puzzle}
use Rattle.trail_solver.specs.Inner.Among.{IsAmong, IsAmongAt}
use Rattle.trail_solver.specs.Inner.Searches.{SearchValue, IsFurther, AreSame, NarrowsSearch}
use Rattle.trail_solver.proofs.AmongCandidates.{among_earlier}
use Rattle.trail_solver.proofs.Earlier.{earlier_refl}
use Rattle.trail_solver.proofs.OneKept.{Removes, removed_earlier}
use Rattle.trail_solver.proofs.SearchSteps.{further_trans, within_removed}

-- a search that isn't changed is narrowed without a loss
pub shaves_nothing : {P : Type 0} (puzzle : P → Puzzle) (s : SearchValue P) → NarrowsSearch puzzle s s true
shaves_nothing puzzle s = grind (arith, nat_tests, earlier_refl)

-- what is said of a narrowing, clause by clause, is `NarrowsSearch`
pub narrows_from : {P : Type 0} (puzzle : P → Puzzle) (a b : SearchValue P) (result : Bool) → IsFurther a b
    → AreSame (IsAmong (puzzle a.rules) a.candidates) (IsAmong (puzzle b.rules) b.candidates)
    → OnFalse result ((g : GridValue) → IsAmong (puzzle a.rules) a.candidates g → ⊥) → NarrowsSearch puzzle a b result
narrows_from puzzle a b result further same refutes = record { further = further; same = same; refutes = refutes }

-- two narrowings of a search, one after the other, are one
pub shaves_then : {P : Type 0} (puzzle : P → Puzzle) (a b c : SearchValue P) (result : Bool) → NarrowsSearch puzzle a b true
    → NarrowsSearch puzzle b c result → NarrowsSearch puzzle a c result
shaves_then puzzle a b c result n m = grind (arith, nat_tests, further_trans)

-- to take away a pair that no solution has narrows the search
pub shaves_refuted : {P : Type 0} (puzzle : P → Puzzle) (old : SearchValue P) (next : CandidatesValue) (cell value : ℕ)
    → Removes old.candidates next cell value → ((h : GridValue) → IsAmongAt (puzzle old.rules) old.candidates cell value h → ⊥)
    → NarrowsSearch puzzle old (record { rules = old.rules; candidates = next }) true
shaves_refuted puzzle old next cell value r refuted =
    let less = removed_earlier old.candidates next cell value r in
    record {
      further = record { rules = refl; less = less };
      same = λ h. (
        λ m. (m.0, within_removed old.candidates next cell value h r m.1 (λ e. refuted h (m.0, (m.1, e)))),
        λ m. among_earlier (puzzle old.rules) old.candidates next less h m,
      );
      refutes = tt;
    }

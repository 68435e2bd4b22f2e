-- Narrowings by pairings keep the solutions of a puzzle, or show that there is none.
use Rattle.std.proofs.Common.{◌≡◌, Bool, true, false, sym, ◌∙◌}
use Rattle.std.specs.Bool.{OnFalse}
use Rattle.latin_board.specs.Squares.{GridValue}
use Rattle.trail_solver.specs.Candidates.{CandidatesValue, IsWithin}
use Rattle.trail_solver.specs.Puzzles.{Puzzle, Solves}
use Rattle.trail_solver.specs.Solutions.{HasNoSolutionWithin, KeepsSolutions}
use Rattle.trail_solver.specs.Inner.Pairings.{IsLatinWithin, NarrowsLatin}

latin_solution : (p : Puzzle) (c : CandidatesValue) (g : GridValue) → c.size ≡ p.size → Solves p g → IsWithin c g → IsLatinWithin c g
latin_solution p c g size s w = record { is_grid = s.is_grid; same_size = s.same_size ∙ sym size; latin = s.latin; within = w }

pub paired_keeps : (p : Puzzle) (old new : CandidatesValue) (result : Bool) → old.size ≡ p.size → NarrowsLatin old new result → KeepsSolutions p old new
paired_keeps p old new result size n = λ g s w. n.keeps g (latin_solution p old g size s w)

pub paired_refutes : (p : Puzzle) (old new : CandidatesValue) (result : Bool) → old.size ≡ p.size → NarrowsLatin old new result
    → OnFalse result (HasNoSolutionWithin p old)
paired_refutes p old new true size n = tt
paired_refutes p old new false size n = λ g s w. n.refutes g (latin_solution p old g size s w)

-- two narrowings that keep the solutions keep them one after the other
pub kept_then : (p : Puzzle) (a b c : CandidatesValue) → KeepsSolutions p a b → KeepsSolutions p b c → KeepsSolutions p a c
kept_then p a b c first second = λ g s w. second g s (first g s w)

pub refuted_then : (p : Puzzle) (a b : CandidatesValue) (result : Bool) → KeepsSolutions p a b → OnFalse result (HasNoSolutionWithin p b)
    → OnFalse result (HasNoSolutionWithin p a)
refuted_then p a b true first second = tt
refuted_then p a b false first second = λ g s w. second g s (first g s w)

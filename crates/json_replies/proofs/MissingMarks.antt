-- The missing mark that a hint from the marks of a board tells.
use Rattle.std.proofs.Common.{◌≡◌, ℕ, Bool, true, false, true≢false, MatchBool, Option, sym, ◌∙◌}
use Rattle.latin_board.specs.Squares.{GridValue}
use Rattle.trail_solver.specs.declared.answer.Answer.{Answer}
use Rattle.trail_solver.specs.declared.answer.Answer.TheVariants.{None as NoSolution, One, Several}
use Rattle.trail_solver.specs.Answers.{Fits}
use Rattle.trail_solver.specs.Candidates.{CandidatesValue}
use Rattle.trail_solver.specs.Completions.{Completes}
use Rattle.trail_solver.specs.Puzzles.{Puzzle}
use Rattle.trail_solver.proofs.FilledGrids.{solution_pair}
use Rattle.line_steps.specs.Reasons.{Striking}
use Rattle.step_chains.specs.declared.hints.NextHint.{NextHint}
use Rattle.step_chains.specs.declared.hints.NextHint.TheVariants.{Follows, Refuted, Nothing}
use Rattle.json_replies.specs.MarkedHints.{AreNotRefuted, IsContradiction, IsLackingOf, IsToldOfMarks}
use Rattle.json_replies.specs.Inner.Marks.{IsFullAnswer}

-- a solution that was found has a number in each square
pub full_answer : (p : Puzzle) (g : GridValue) (found : Answer) (w : ℕ) → Fits (Completes p g) found → w ≡ p.size → IsFullAnswer w found
full_answer p g NoSolution w fits size = tt
full_answer p g (One s) w fits size =
    let solves = fits.0.0 in
    record { size = solves.same_size ∙ sym size; each = λ cell inside. solution_pair p s w cell solves size inside }
full_answer p g (Several s other) w fits size = tt

-- of a contradiction a square is told, if there is one
pub told_missing : (p : Puzzle) (Struck : Striking) (g : GridValue) (view : CandidatesValue) (hint : NextHint) (found : Answer) (unmarked : Option ℕ)
    → IsContradiction hint → AreNotRefuted Struck g → Fits (Completes p g) found → IsLackingOf view found unmarked
    → IsToldOfMarks p Struck g view hint unmarked
told_missing p Struck g view (Follows grade chain) found unmarked is holds fits lacks = absurd is
told_missing p Struck g view (Refuted grade refutation) found unmarked is holds fits lacks = (holds, (found, fits, lacks))
told_missing p Struck g view Nothing found unmarked is holds fits lacks = absurd is

-- where a test fails, the second of two facts holds
pub otherwise_so : (A B : Type 0) (t : Bool) → t ≡ false → MatchBool t A B → B
otherwise_so A B true is h = absurd (true≢false is)
otherwise_so A B false is h = h

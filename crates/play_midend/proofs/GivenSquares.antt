-- The givens of a puzzle stand on each board that moves lead to.
use Rattle.std.proofs.lemmas.Bool.Decides.{nat_tests}
use Rattle.std.proofs.Common.{◌≡◌, ℕ, ◌*◌, ◌==◌, true, false, cond, List, [], ◌∷◌, Option, Some, None, refl, arith}
use Rattle.std.specs.Option.{option_map_or, option_or}
use Rattle.std.proofs.lemmas.List.{get_or-set_other}
use Rattle.std.proofs.lemmas.List.FromFn.{get_or-map-range_with_len}
use Rattle.latin_board.specs.Boards.{BoardValue, grid_of, with_done_flipped}
use Rattle.latin_board.specs.Edges.{edge_place}
use Rattle.trail_solver.specs.Puzzles.{Puzzle, HoldsGivens, Solves}
use Rattle.play_midend.specs.declared.moves.Move.{Move}
use Rattle.play_midend.specs.declared.moves.Move.TheVariants.{Real, Pencil, MarkAll, Solve, Restart, Done}
use Rattle.play_midend.specs.declared.fault.PlayFault.{PlayFault}
use Rattle.play_midend.specs.Steps.{cell_of, entry_refusal, mark_refusal, refusal_of, with_number, with_mark_flipped, start_of, moved, after_move, replay_from}
use Rattle.play_midend.specs.Histories.{past}
use Rattle.play_midend.specs.Laws.{GivensStay}
use Rattle.play_midend.proofs.TestedSolutions.{solutions_are_filled_in}

-- the givens stand on the first board
start_holds : (p : Puzzle) → HoldsGivens p (grid_of (start_of p))
start_holds p cell inside given = get_or-map-range_with_len p.given 0 (p.size * p.size) cell cell 0 inside (omega arith)

-- a number in a square without a given leaves the givens as they are
number_kept : (p : Puzzle) (b : BoardValue) (cell n : ℕ) → p.given cell ≡ 0 → HoldsGivens p (grid_of b)
    → HoldsGivens p (grid_of (with_number p b cell n))
number_kept p b cell n free holds other inside given = grind (arith, nat_tests, get_or-set_other)

-- a number or a mark that isn't refused is for a square without a given
entry_free : (p : Puzzle) (x y n : ℕ) → entry_refusal p x y n ≡ None → p.given (cell_of p.size x y) ≡ 0
entry_free p x y n none = grind arith

-- if neither of two refusals applies, the first doesn't
first_none : (first second : Option PlayFault) → option_or first second ≡ None → first ≡ None
first_none None second none = refl
first_none (Some fault) second none = none

-- a move that isn't refused leaves the givens as they are
moved_kept : (p : Puzzle) (b : BoardValue) (m : Move) → refusal_of p b m ≡ None → HoldsGivens p (grid_of b)
    → HoldsGivens p (grid_of (moved p b m))
moved_kept p b (Real x y n) none holds = number_kept p b (cell_of p.size x y) n (entry_free p x y n none) holds
moved_kept p b (Pencil x y n) none holds =
    let cell = cell_of p.size x y in
    let free = entry_free p x y n (first_none (entry_refusal p x y n) (mark_refusal b cell n) none) in
    elim (n == 0) as (λ t. HoldsGivens p (grid_of (cond t (with_number p b cell 0) (with_mark_flipped b cell n)))) [
      | true ↦ number_kept p b cell 0 free holds
      | false ↦ holds
    ]
moved_kept p b MarkAll none holds = holds
moved_kept p b (Solve g) none holds =
    let solves : Solves p g = (solutions_are_filled_in p b g).0 none in solves.givens
moved_kept p b Restart none holds = start_holds p
moved_kept p b (Done x y) none holds =
    elim (edge_place p.size x y) as (λ place. HoldsGivens p (grid_of (option_map_or (with_done_flipped b) place b))) [
      | None ↦ holds
      | Some place ↦ holds
    ]

-- any move, refused or not, leaves the givens as they are
after_kept : (p : Puzzle) (b : BoardValue) (m : Move) → HoldsGivens p (grid_of b) → HoldsGivens p (grid_of (after_move p b m))
after_kept p b m holds = grind (arith, nat_tests, moved_kept)

-- moves in turn leave the givens as they are
replay_kept : (p : Puzzle) (b : BoardValue) (ms : List Move) → HoldsGivens p (grid_of b) → HoldsGivens p (grid_of (replay_from p b ms))
replay_kept p b [] holds = holds
replay_kept p b (m ∷ ms) holds = replay_kept p (after_move p b m) ms (after_kept p b m holds)

-- the board that a session shows has the givens of its puzzle
pub givens_stay : {P : Type 0} (puzzle : P → Puzzle) → GivensStay puzzle
givens_stay puzzle h valid = let p = puzzle h.puzzle in replay_kept p (start_of p) (past h) (start_holds p)

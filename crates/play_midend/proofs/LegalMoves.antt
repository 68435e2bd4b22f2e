-- A move that isn't refused is a restart or has a text, and so it is with each move of a legal list.
use Rattle.std.proofs.lemmas.Bool.Decides.{nat_tests}
use Rattle.std.proofs.Common.{◌≡◌, ℕ, ◌≤◌, ℤ, false, List, [], ◌∷◌, Option, Some, None, cond, refl, arith}
use Rattle.std.specs.List.{AllByRecursion}
use Rattle.std.specs.Option.{option_map_or}
use Rattle.latin_board.specs.Boards.{BoardValue}
use Rattle.latin_board.specs.Edges.{edge_place}
use Rattle.latin_board.proofs.LatinLines.{latin_full}
use Rattle.trail_solver.specs.Puzzles.{Puzzle}
use Rattle.play_midend.specs.declared.moves.Move.{Move}
use Rattle.play_midend.specs.declared.moves.Move.TheVariants.{Real, Pencil, MarkAll, Solve, Restart, Done}
use Rattle.play_midend.specs.declared.fault.PlayFault.TheVariants.{OffGrid}
use Rattle.play_midend.specs.MoveTexts.{AreBytes, IsCoordinate, IsWritable}
use Rattle.play_midend.specs.Steps.{cell_of, entry_refusal, mark_refusal, refusal_of, moved, after_move, ArePlayable}
use Rattle.play_midend.proofs.TestedSolutions.{solutions_are_filled_in}
use Rattle.play_midend.proofs.Playing.{or_none, not_refused}

-- the move is a restart or has a text
abbrev pub FitsText : Move → Type 0
FitsText Restart = Unit {0}
FitsText m = IsWritable m

entry_fits : (p : Puzzle) (x y n : ℕ) → p.size ≤ 9 → entry_refusal p x y n ≡ None → AreBytes x y n
entry_fits p x y n small none = record { x_is = grind arith; y_is = grind arith; n_is = grind arith }

-- an edge place has coordinates that a text holds
edge_fits : (w : ℕ) (x y : ℤ) (k : ℕ) → w ≤ 9 → edge_place w x y ≡ Some k → IsCoordinate x × IsCoordinate y
edge_fits w x y k small is = grind (arith, nat_tests)

pub move_fits : (p : Puzzle) (b : BoardValue) (m : Move) → p.size ≤ 9 → refusal_of p b m ≡ None → FitsText m
move_fits p b (Real x y n) small none = entry_fits p x y n small none
move_fits p b (Pencil x y n) small none =
    entry_fits p x y n small (or_none (entry_refusal p x y n) (mark_refusal b (cell_of p.size x y) n) none).0
move_fits p b MarkAll small none = tt
move_fits p b Restart small none = tt
move_fits p b (Solve g) small none =
    let solves = (solutions_are_filled_in p b g).0 none in
    record { grid = solves.is_grid; full = latin_full g solves.latin }
move_fits p b (Done x y) small none = by_place (edge_place p.size x y) refl none
  where
    by_place : (place : Option ℕ)
        → edge_place p.size x y ≡ place → cond (option_map_or p.clued place false) None (Some OffGrid) ≡ None
        → IsCoordinate x × IsCoordinate y
    by_place None at no_fault = cc
    by_place (Some k) at no_fault = edge_fits p.size x y k small at

-- each move of a list that can be played is a restart or has a text
pub all_fit : (p : Puzzle) (b : BoardValue) (ms : List Move) → p.size ≤ 9 → ArePlayable p b ms → AllByRecursion FitsText ms
all_fit p b [] small playable = tt
all_fit p b (m ∷ ms) small playable =
    (move_fits p b m small (not_refused (refusal_of p b m) (moved p b m) playable.0), all_fit p (after_move p b m) ms small playable.1)

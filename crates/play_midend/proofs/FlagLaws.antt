-- The meaning of the flags `cheated` (help) and `completed` in the moves since the last restart.
use Rattle.std.proofs.lemmas.Bool.Decides.{nat_tests}
use Rattle.std.proofs.Common.{◌≡◌, ◌⊎◌, ℕ, ◌-◌, ◌*◌, ◌<◌, ◌≤◌, ◌==◌, true, false, not, ◌&&◌, ◌||◌, cond, Some, None, refl, sym, ◌∙◌, subst, inl, inr, arith, List, [], ◌∷◌}
use Rattle.std.specs.Option.{option_map_or}
use Rattle.std.proofs.Math.Bool.{and-true, and-false}
use Rattle.std.proofs.lemmas.Bool.{cond_both, or_cases, or_left, or_right}
use Rattle.std.proofs.lemmas.List.{get_or-set_same, length-set}
use Rattle.std.proofs.lemmas.Nat.{mul-add-lt}
use Rattle.std.proofs.lemmas.List.Elements.{All-set}
use Rattle.std.proofs.lemmas.List.FromFn.{get_or-map-range_with_len, length-map-range_with_len}
use Rattle.latin_board.specs.Squares.{IsGrid}
use Rattle.latin_board.specs.Boards.{BoardValue, IsBoard, grid_of, with_done_flipped}
use Rattle.latin_board.specs.Edges.{edge_place}
use Rattle.latin_board.proofs.LatinLines.{latin_full}
use Rattle.trail_solver.specs.Puzzles.{Puzzle, Solves, solves_test}
use Rattle.trail_solver.proofs.SolutionTests.{Decides-solves_test}
use Rattle.play_midend.specs.declared.moves.Move.{Move}
use Rattle.play_midend.specs.declared.moves.Move.TheVariants.{Real, Pencil, MarkAll, Solve, Restart, Done}
use Rattle.play_midend.specs.Steps.{cell_of, entry_refusal, mark_refusal, refusal_of, with_number, with_mark_flipped, start_of, moved, is_restart, after_move, replay_from, ArePlayable}
use Rattle.play_midend.specs.declared.session.Session.TheInside.{Inside}
use Rattle.play_midend.specs.Histories.{past, IsSessionBoard}
use Rattle.play_midend.specs.Inner.Links.{viewed, AreLinked}
use Rattle.play_midend.specs.Flags.{fills_in, LeavesSolution, HelpIsFlagged, CompletionIsFlagged, HelpCompletes}
use Rattle.play_midend.proofs.TestedSolutions.{solutions_are_filled_in}
use Rattle.play_midend.proofs.Playing.{or_none, not_refused}
use Rattle.play_midend.proofs.Replaying.{ArePlayable-take, after_step}
use Rattle.play_midend.proofs.Making.{step_allowed}
use Rattle.play_midend.proofs.Flagging.{IsSetBy, flagged}
use Rattle.play_midend.proofs.Viewing.{shown_viewed, valid_viewed}

-- the flag `cheated` after a move: a solution sets it, a restart takes it back, any other move leaves it
helped_is : (p : Puzzle) (b : BoardValue) (m : Move) → (moved p b m).cheated ≡ (fills_in m || (b.cheated && not (is_restart m)))
helped_is p b m = grind (arith, nat_tests, cond_both, and-true, and-false)

helped_kept : (p : Puzzle) (b : BoardValue) (m : Move) → b.cheated ≡ true → is_restart m ≡ false → (moved p b m).cheated ≡ true
helped_kept p b m is other = helped_is p b m ∙ or_right (fills_in m) _ (rw (is, other) refl)

helped_only : (p : Puzzle) (b : BoardValue) (m : Move) → (moved p b m).cheated ≡ true
    → (fills_in m ≡ true) ⊎ ((b.cheated ≡ true) × (is_restart m ≡ false))
helped_only p b m is = grind (arith, nat_tests, helped_is)

helped_set : (p : Puzzle) (b : BoardValue) (m : Move) → fills_in m ≡ true → (moved p b m).cheated ≡ true
helped_set p b m is = helped_is p b m ∙ or_left (fills_in m) _ is

help_set_by : (p : Puzzle) → IsSetBy p (λ b. b.cheated) (λ b m. fills_in m ≡ true) (λ b. Unit {0})
help_set_by p = grind (arith, nat_tests, helped_set, helped_kept, helped_only)

-- the flag `cheated` is set just if a solution was filled in since the last restart
pub help_is_flagged : {P : Type 0} (puzzle : P → Puzzle) → HelpIsFlagged puzzle
help_is_flagged puzzle h valid =
    let p = puzzle h.puzzle in
    flagged p (λ b. b.cheated) (λ b m. fills_in m ≡ true) (λ b. Unit {0}) (help_set_by p) (start_of p) (past h) tt refl
    (ArePlayable-take p (start_of p) (h.position - 1) h.moves valid.legal.playable)

-- a board of the puzzle's size, with numbers up to it
record IsOf (p : Puzzle) (b : BoardValue) : Type 0 where
  pub grid : IsGrid (grid_of b)
  pub size : b.size ≡ p.size

start_is_of : (p : Puzzle) → 3 ≤ p.size → p.size ≤ 9 → ((cell : ℕ) → cell < p.size * p.size → p.given cell ≤ p.size) → IsOf p (start_of p)
start_is_of p low high small = grind (arith, nat_tests, length-map-range_with_len, get_or-map-range_with_len)

entry_small : (p : Puzzle) (x y n : ℕ) → entry_refusal p x y n ≡ None → n ≤ p.size
entry_small p x y n none = grind arith

entry_inside : (p : Puzzle) (x y n : ℕ) → entry_refusal p x y n ≡ None → cell_of p.size x y < p.size * p.size
entry_inside p x y n none = grind (arith, nat_tests, mul-add-lt)

number_is_of : (p : Puzzle) (b : BoardValue) (cell n : ℕ) → IsOf p b → n ≤ p.size → IsOf p (with_number p b cell n)
number_is_of p b cell n of small = record {
  grid = record {
    smallest = of.grid.smallest;
    largest = of.grid.largest;
    count = length-set b.numbers cell n ∙ of.grid.count;
    within = All-set (λ k. k ≤ b.size) b.numbers cell n (rw of.size small) of.grid.within;
  };
  size = of.size;
}

pencil_entry : (p : Puzzle) (b : BoardValue) (x y n : ℕ) → refusal_of p b (Pencil x y n) ≡ None → entry_refusal p x y n ≡ None
pencil_entry p b x y n none = (or_none (entry_refusal p x y n) (mark_refusal b (cell_of p.size x y) n) none).0

moved_is_of : (p : Puzzle) (b : BoardValue) (m : Move) → IsOf p (start_of p) → IsOf p b → refusal_of p b m ≡ None → IsOf p (moved p b m)
moved_is_of p b (Real x y n) start of none = number_is_of p b (cell_of p.size x y) n of (entry_small p x y n none)
moved_is_of p b (Pencil x y n) start of none =
    elim (n == 0) as (λ t. IsOf p (cond t (with_number p b (cell_of p.size x y) 0) (with_mark_flipped b (cell_of p.size x y) n))) [
      | true ↦ number_is_of p b (cell_of p.size x y) 0 of (omega arith)
      | false ↦ record { grid = of.grid; size = of.size }
    ]
moved_is_of p b MarkAll start of none = record { grid = of.grid; size = of.size }
moved_is_of p b (Solve g) start of none =
    let solves : Solves p g = (solutions_are_filled_in p b g).0 none in
    record {
      grid = subst (λ (w : ℕ). IsGrid (record { size = w; numbers = g.numbers })) (solves.same_size ∙ sym of.size) solves.is_grid;
      size = of.size;
    }
moved_is_of p b Restart start of none = start
moved_is_of p b (Done x y) start of none =
    elim (edge_place p.size x y) as (λ place. IsOf p (option_map_or (with_done_flipped b) place b)) [
      | None ↦ of
      | Some place ↦ record { grid = of.grid; size = of.size }
    ]

-- with a blank square nothing is solved
blank_unsolved : (p : Puzzle) (b : BoardValue) (cell : ℕ) → IsOf p b → cell < p.size * p.size → Solves p (grid_of (with_number p b cell 0)) → ⊥
blank_unsolved p b cell of inside solves =
    let within : cell < b.size * b.size = rw of.size inside in
    let full = (latin_full (grid_of (with_number p b cell 0)) solves.latin).each cell within in
    let count = of.grid.count in
    let blank = get_or-set_same b.numbers cell 0 0 (omega (arith, count)) in
    absurd (omega (arith, blank))

-- if a board is completed after a number, it is solved then, or it was completed before
number_only : (p : Puzzle) (b : BoardValue) (cell n : ℕ) → IsOf p (with_number p b cell n) → (with_number p b cell n).completed ≡ true
    → Solves p (grid_of (with_number p b cell n)) ⊎ (b.completed ≡ true)
number_only p b cell n of is =
    let g = grid_of (with_number p b cell n) in
    elim (or_cases b.completed (solves_test p g) is) [
      | inl old ↦ inr old
      | inr test ↦ inl ((Decides-solves_test p g of.grid).0 test)
    ]

solved_only : (p : Puzzle) (b : BoardValue) (m : Move) → IsOf p b → refusal_of p b m ≡ None → (moved p b m).completed ≡ true
    → LeavesSolution p b m ⊎ ((b.completed ≡ true) × (is_restart m ≡ false))
solved_only p b (Real x y n) of none is =
    let cell = cell_of p.size x y in
    elim (number_only p b cell n (number_is_of p b cell n of (entry_small p x y n none)) is) [
      | inl now ↦ inl (refl, now)
      | inr old ↦ inr (old, refl)
    ]
solved_only p b (Pencil x y n) of none is =
    let cell = cell_of p.size x y in
    let inside = entry_inside p x y n (pencil_entry p b x y n none) in
    let same : b.completed ≡ true =
    elim (n == 0) as (λ t. (cond t (with_number p b cell 0) (with_mark_flipped b cell n)).completed ≡ true → b.completed ≡ true) [
      | true ↦ λ now. elim (number_only p b cell 0 (number_is_of p b cell 0 of (omega arith)) now) [
        | inl solves ↦ absurd (blank_unsolved p b cell of inside solves)
        | inr old ↦ old
      ]
      | false ↦ λ old. old
    ] is in
    inr (same, refl)
solved_only p b MarkAll of none is = inr (is, refl)
solved_only p b (Solve g) of none is =
    let solves : Solves p g = (solutions_are_filled_in p b g).0 none in
    inl (refl, subst (λ (w : ℕ). Solves p (record { size = w; numbers = g.numbers })) (solves.same_size ∙ sym of.size) solves)
solved_only p b Restart of none is = cc
solved_only p b (Done x y) of none is =
    elim (edge_place p.size x y) as (λ place. (option_map_or (with_done_flipped b) place b).completed ≡ true
    → LeavesSolution p b (Done x y) ⊎ ((b.completed ≡ true) × (false ≡ false))) [
      | None ↦ λ was. inr (was, refl)
      | Some place ↦ λ was. inr (was, refl)
    ] is

solved_set : (p : Puzzle) (b : BoardValue) (m : Move) → LeavesSolution p b m → (moved p b m).completed ≡ true
solved_set p b (Real x y n) is =
    let g = grid_of (with_number p b (cell_of p.size x y) n) in
    or_right b.completed (solves_test p g) ((Decides-solves_test p g is.1.is_grid).1 is.1)
solved_set p b (Solve g) is = refl
solved_set p b m is = cc (is.0)

solved_kept : (p : Puzzle) (b : BoardValue) (m : Move) → b.completed ≡ true → is_restart m ≡ false → (moved p b m).completed ≡ true
solved_kept p b m is other = grind (arith, nat_tests)

solution_set_by : (p : Puzzle) → IsOf p (start_of p) → IsSetBy p (λ b. b.completed) (LeavesSolution p) (IsOf p)
solution_set_by p start = grind (arith, nat_tests, moved_is_of, solved_set, solved_kept, solved_only)

-- the flag `completed` is set just if a number or a solution left the puzzle solved since the last restart
pub completion_is_flagged : {P : Type 0} (puzzle : P → Puzzle) (of_game : P → Type 0)
    → ((q : P) → of_game q → (3 ≤ (puzzle q).size) × ((puzzle q).size ≤ 9))
    → ((q : P) (cell : ℕ) → of_game q → cell < (puzzle q).size * (puzzle q).size → (puzzle q).given cell ≤ (puzzle q).size)
    → CompletionIsFlagged puzzle of_game
completion_is_flagged puzzle of_game sizes givens h is valid =
    let p = puzzle h.puzzle in
    let start = start_is_of p (sizes h.puzzle is).0 (sizes h.puzzle is).1 (λ cell inside. givens h.puzzle cell is inside) in
    flagged p (λ b. b.completed) (LeavesSolution p) (IsOf p) (solution_set_by p start) (start_of p) (past h) start refl
    (ArePlayable-take p (start_of p) (h.position - 1) h.moves valid.legal.playable)

-- ---- help and completion

filled_completed : (p : Puzzle) (b : BoardValue) (m : Move) → fills_in m ≡ true → (moved p b m).completed ≡ true
filled_completed p b (Solve g) is = refl
filled_completed p b m is = cc

both_moved : (p : Puzzle) (b : BoardValue) (m : Move) → (b.cheated ≡ true → b.completed ≡ true) → (moved p b m).cheated ≡ true
    → (moved p b m).completed ≡ true
both_moved p b m both is = grind (arith, nat_tests, helped_only, filled_completed, solved_kept)

both_replayed : (p : Puzzle) (b : BoardValue) (ms : List Move) → ArePlayable p b ms → (b.cheated ≡ true → b.completed ≡ true)
    → (replay_from p b ms).cheated ≡ true → (replay_from p b ms).completed ≡ true
both_replayed p b [] playable both is = both is
both_replayed p b (m ∷ ms) playable both is =
    let none = not_refused (refusal_of p b m) (moved p b m) playable.0 in
    let at = after_step p b m (moved p b m) (step_allowed p b m none) in
    both_replayed p (after_move p b m) ms playable.1
    (subst (λ (c : BoardValue). c.cheated ≡ true → c.completed ≡ true) (sym at) (λ set. both_moved p b m both set)) is

-- where `cheated` is set, so is `completed`
pub help_completes : {P : Type 0} (puzzle : P → Puzzle) → HelpCompletes puzzle
help_completes puzzle h valid is =
    let p = puzzle h.puzzle in
    both_replayed p (start_of p) (past h) (ArePlayable-take p (start_of p) (h.position - 1) h.moves valid.legal.playable) (λ off. cc) is

-- the board of a session is one of its puzzle's size, on which help comes with completion
pub session_board : {P : Type 0} (puzzle : P → Puzzle) (s : Inside P) → s.params.size ≡ (puzzle s.puzzle).size
    → AreLinked (puzzle s.puzzle) s.links.items s.past s.board → IsBoard s.board → IsSessionBoard (puzzle s.puzzle).size s.board
session_board puzzle s size linked board =
    let p = puzzle s.puzzle in
    record {
      board = board;
      size = linked.size;
      helped = subst (λ (b : BoardValue). b.cheated ≡ true → b.completed ≡ true) (shown_viewed p s linked)
          (help_completes puzzle (viewed s) (valid_viewed p s size linked));
    }

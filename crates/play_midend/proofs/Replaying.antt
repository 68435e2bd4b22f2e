-- Replay along a list of moves that is cut in two, and with which move such a list begins.
use Rattle.std.proofs.Common.{arith}
use Rattle.std.proofs.lemmas.Bool.Decides.{nat_tests}
use Rattle.std.proofs.Common.{◌≡◌, ℕ, zero, suc, false, List, [], ◌∷◌, ◌++◌, length, take, Ok, refl, ap}
use Rattle.std.specs.Result.{result_unwrap_or}
use Rattle.latin_board.specs.Boards.{BoardValue}
use Rattle.trail_solver.specs.Puzzles.{Puzzle}
use Rattle.play_midend.specs.declared.moves.Move.{Move}
use Rattle.play_midend.specs.Steps.{step, after_move, replay_from, ArePlayable, is_restart, begins_with_restart}

-- the board that a move leads to is the board after it
pub after_step : (p : Puzzle) (b : BoardValue) (m : Move) (c : BoardValue) → step p b m ≡ Ok c → after_move p b m ≡ c
after_step p b m c stepped = ap (λ r. result_unwrap_or r b) stepped

-- to replay two lists, one after the other, is to replay the second from where the first leads
pub replay_from-append : (p : Puzzle) (b : BoardValue) (ms ns : List Move)
    → replay_from p b (ms ++ ns) ≡ replay_from p (replay_from p b ms) ns
replay_from-append p b [] ns = refl
replay_from-append p b (m ∷ ms) ns = replay_from-append p (after_move p b m) ms ns

-- if moves can be made in turn, and others after them, all can be made in turn
pub ArePlayable-append : (p : Puzzle) (b : BoardValue) (ms ns : List Move) → ArePlayable p b ms → ArePlayable p (replay_from p b ms) ns
    → ArePlayable p b (ms ++ ns)
ArePlayable-append p b [] ns h more = more
ArePlayable-append p b (m ∷ ms) ns h more = (h.0, ArePlayable-append p (after_move p b m) ms ns h.1 more)

-- if moves can be made in turn, so can the first n of them
pub ArePlayable-take : (p : Puzzle) (b : BoardValue) (n : ℕ) (ms : List Move) → ArePlayable p b ms → ArePlayable p b (take n ms)
ArePlayable-take p b zero ms h = tt
ArePlayable-take p b (suc n) [] h = tt
ArePlayable-take p b (suc n) (m ∷ ms) h = (h.0, ArePlayable-take p (after_move p b m) n ms h.1)

-- a list that doesn't begin with a restart has no beginning that does
pub restart_first-take : (n : ℕ) (ms : List Move) → begins_with_restart ms ≡ false → begins_with_restart (take n ms) ≡ false
restart_first-take n ms h = grind (arith, nat_tests)

-- a list with one move more at its end doesn't begin with a restart, if its first move is none
pub restart_first-push : (ms : List Move) (m : Move) → begins_with_restart ms ≡ false → (length ms ≡ 0 → is_restart m ≡ false)
    → begins_with_restart (ms ++ m ∷ []) ≡ false
restart_first-push [] m h restart = restart refl
restart_first-push (k ∷ ms) m h restart = h

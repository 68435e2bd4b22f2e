-- The parts of a session that a played move keeps and changes, and the first of several that are played.
use Rattle.std.proofs.Common.{◌≡◌, ◌+◌, ◌-◌, List, [], ◌∷◌, ◌++◌, length, Result, Ok, Err, refl, sym, ap, ◌∙◌, arith, length-append}
use Rattle.std.proofs.lemmas.List.{length-take-le, take_all}
use Rattle.trail_solver.specs.Puzzles.{Puzzle}
use Rattle.play_midend.specs.declared.moves.Move.{Move}
use Rattle.play_midend.specs.declared.fault.PlayFault.{PlayFault}
use Rattle.play_midend.specs.Steps.{moved, start_of, replay_from}
use Rattle.play_midend.specs.Histories.{History, IsValid, past, shown, refusal_in, with_move, played}
use Rattle.play_midend.specs.MoveLists.{result_and_then, played_all}
use Rattle.play_midend.proofs.Making.{step_allowed}
use Rattle.play_midend.proofs.Replaying.{replay_from-append, after_step}
use Rattle.play_midend.proofs.Playing.{accepted, allowed_in}

-- a move that is played leaves the puzzle
pub played_puzzle : {P : Type 0} (p : Puzzle) (h next : History P) (m : Move)
    → played p h m ≡ Ok next → next.puzzle ≡ h.puzzle
played_puzzle p h next m is = ap (λ k. k.puzzle) (sym (accepted (refusal_in p h m) (with_move h m) next is).1)

pub played_position : {P : Type 0} (p : Puzzle) (h next : History P) (m : Move)
    → played p h m ≡ Ok next → next.position ≡ h.position + 1
played_position p h next m is = ap (λ k. k.position) (sym (accepted (refusal_in p h m) (with_move h m) next is).1)

-- a move that is played in a valid session is made on the board that it shows
pub shown_played : {P : Type 0} (p : Puzzle) (h next : History P) (m : Move) → IsValid p h → played p h m ≡ Ok next
    → shown p next ≡ moved p (shown p h) m
shown_played {P} p h next m valid is =
    let first = valid.first in
    let last = valid.last in
    let made = accepted (refusal_in p h m) (with_move h m) next is in
    let front : length (past h) ≡ h.position - 1 = length-take-le (h.position - 1) h.moves (omega arith) in
    let long : length (past h ++ m ∷ []) ≡ length (past h) + 1 = length-append (past h) (m ∷ []) in
    let whole : past (with_move h m) ≡ past h ++ m ∷ [] = take_all (h.position + 1 - 1) (past h ++ m ∷ []) (omega arith) in
    ap (λ (k : History P). shown p k) (sym made.1) ∙ ap (λ (ms : List Move). replay_from p (start_of p) ms) whole
    ∙ replay_from-append p (start_of p) (past h) (m ∷ [])
    ∙ after_step p (shown p h) m (moved p (shown p h) m) (step_allowed p (shown p h) m (allowed_in p h m made.0).on_board)

pub first_played : {P : Type 0} (p : Puzzle) (h last : History P) (m : Move) (ms : List Move)
    → played_all p h (m ∷ ms) ≡ Ok last
    → (next : History P) × (played p h m ≡ Ok next) × (played_all p next ms ≡ Ok last)
first_played {P} p h last m ms is = by_first (played p h m) is
  where
    by_first : (first : Result (History P) PlayFault)
        → result_and_then (λ next. played_all p next ms) first ≡ Ok last
        → (next : History P) × (first ≡ Ok next) × (played_all p next ms ≡ Ok last)
    by_first (Ok next) is = (next, refl, is)
    by_first (Err fault) is = cc

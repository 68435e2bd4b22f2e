-- The refusals of a move in a session, and the session after a move that isn't refused.
use Rattle.std.proofs.lemmas.Bool.Decides.{nat_tests}
use Rattle.std.proofs.Common.{◌≡◌, ◌≢◌, ℕ, ◌+◌, false, List, [], ◌∷◌, ◌++◌, take, Option, Some, None, Ok, IsOk, refl, ap, subst, arith, inr}
use Rattle.std.specs.Option.{option_or}
use Rattle.std.proofs.lemmas.List.{take-map, map-append}
use Rattle.latin_board.specs.Boards.{BoardValue}
use Rattle.latin_board.specs.Changes.{ChangeValue, FitsBoard, board_after}
use Rattle.trail_solver.specs.Puzzles.{Puzzle}
use Rattle.trail_solver.specs.Solutions.{IsOnlySolution}
use Rattle.play_midend.specs.declared.moves.Move.{Move}
use Rattle.play_midend.specs.declared.moves.Move.TheVariants.{Solve}
use Rattle.play_midend.specs.declared.session.Link.{Link}
use Rattle.play_midend.specs.declared.session.Session.TheInside.{Inside}
use Rattle.play_midend.specs.declared.fault.PlayFault.{PlayFault}
use Rattle.play_midend.specs.Steps.{is_restart, refusal_of, unless_refused, moved}
use Rattle.play_midend.specs.declared.session.TheConstants.{MOST_STATES}
use Rattle.play_midend.specs.Histories.{History, shown, first_state_refusal, full_refusal, refusal_in, with_move, played, IsRefusal, IsSolveRefusal, at_position}
use Rattle.play_midend.specs.Inner.Links.{moves_of, viewed, AreLinked}
use Rattle.latin_board.specs.Squares.{GridValue}
use Rattle.play_midend.proofs.TestedSolutions.{solutions_are_filled_in}
use Rattle.play_midend.proofs.Making.{step_allowed}
use Rattle.play_midend.proofs.Linking.{linked_new}
use Rattle.play_midend.proofs.Viewing.{past_viewed, shown_viewed}

-- if neither of two refusals applies, each of them is none
pub or_none : (a b : Option PlayFault) → option_or a b ≡ None → (a ≡ None) × (b ≡ None)
or_none None b h = (refl, h)
or_none (Some x) b h = cc

-- a move that a session doesn't refuse is played
pub played_allowed : {P : Type 0} (p : Puzzle) (h : History P) (m : Move) → refusal_in p h m ≡ None → played p h m ≡ Ok (with_move h m)
played_allowed p h m allowed = ap (λ o. unless_refused o (with_move h m)) allowed

-- the move is no restart at the first state, the board allows it, and the history has room
pub record Allowed (p : Puzzle) (position : ℕ) (board : BoardValue) (m : Move) : Type 0 where
  pub restart : position ≡ 1 → is_restart m ≡ false
  pub on_board : refusal_of p board m ≡ None
  pub room : position ≢ MOST_STATES

allowed_parts : (p : Puzzle) (position : ℕ) (board : BoardValue) (m : Move) → first_state_refusal position m ≡ None
    → refusal_of p board m ≡ None → full_refusal position ≡ None → Allowed p position board m
allowed_parts p position board m restart allowed room = grind (arith, nat_tests)

-- a move that isn't refused in a session is allowed at its position
pub allowed_in : {P : Type 0} (p : Puzzle) (h : History P) (m : Move) → refusal_in p h m ≡ None → Allowed p h.position (shown p h) m
allowed_in p h m allowed = grind (arith, nat_tests, or_none, allowed_parts)

pub allowed_viewed : {P : Type 0} (p : Puzzle) (s : Inside P) (m : Move) → AreLinked p s.links.items s.past s.board
    → refusal_in p (viewed s) m ≡ None → Allowed p (s.past + 1) s.board m
allowed_viewed p s m h allowed =
    subst (λ (b : BoardValue). Allowed p (s.past + 1) b m) (shown_viewed p s h) (allowed_in p (viewed s) m allowed)

-- if a call gives a value, there was no refusal, and it is the value to give
pub accepted : {A : Type 0} (refusal : Option PlayFault) (a b : A) → unless_refused refusal a ≡ Ok b → (refusal ≡ None) × (a ≡ b)
accepted None a b e = (refl, cc)
accepted (Some fault) a b e = cc

-- if a call gives a value, there was no refusal
pub not_refused : (o : Option PlayFault) {A : Type 0} (a : A) → IsOk (unless_refused o a) → o ≡ None
not_refused None a h = refl
not_refused (Some fault) a h = cc

-- the past links with a new one after them, of a move that is allowed, are linked
pub linked_move : {P : Type 0} (p : Puzzle) (s : Inside P) (m : Move) (change : ChangeValue) → AreLinked p s.links.items s.past s.board
    → Allowed p (s.past + 1) s.board m → FitsBoard s.board change → board_after s.board change ≡ moved p s.board m
    → AreLinked p (take s.past s.links.items ++ record { made = m; change = change } ∷ []) s.past s.board
linked_move p s m change h allowed fits board_is =
    let few = h.few in
    let inside = h.inside in
    let room : s.past + 1 ≢ MOST_STATES = allowed.room in
    linked_new p s.links.items s.past s.board (record { made = m; change = change }) (moved p s.board m) h
    (record { stepped = step_allowed p s.board m allowed.on_board; fits = fits; ahead = board_is }) (omega arith)
    (λ zero. allowed.restart (omega arith))

pub played_viewed : {P : Type 0} (p : Puzzle) (s : Inside P) (new : List Link) (m : Move) (change : ChangeValue)
    → refusal_in p (viewed s) m ≡ None → new ≡ take s.past s.links.items ++ record { made = m; change = change } ∷ []
    → played p (viewed s) m ≡ Ok (at_position (record (viewed s) { moves = moves_of new }) (s.past + 1 + 1))
played_viewed p s new m change allowed is = grind (arith, nat_tests, past_viewed, take-map, map-append, played_allowed)

-- a solution is a move that only a full history refuses
pub solved_as_played : {P : Type 0} (p : Puzzle) (h : History P) (g : GridValue) → IsOnlySolution p g
    → played p h (Solve g) ≡ unless_refused (full_refusal h.position) (with_move h (Solve g))
solved_as_played p h g only = rw ((solutions_are_filled_in p (shown p h) g).1 only.solves) refl

pub solve_refused : {P : Type 0} (p : Puzzle) (h : History P) (g : GridValue) (fault : PlayFault) → IsOnlySolution p g
    → IsRefusal (played p h (Solve g)) fault → IsSolveRefusal p h fault
solve_refused p h g fault only is = (played p h (Solve g), inr (inr (g, only, solved_as_played p h g only)), is)

-- A list of moves that is played along from a new session, and undos in turn.
use Rattle.std.proofs.lemmas.Bool.Decides.{nat_tests}
use Rattle.std.proofs.Common.{◌≡◌, ℕ, zero, suc, ◌+◌, ◌-◌, ◌≤◌, false, List, [], ◌∷◌, ◌++◌, length, None, Result, Ok, Err, IsOk, refl, sym, ap, ◌∙◌, subst, arith}
use Rattle.std.proofs.lemmas.List.{append-nil, append_assoc, length-append, take_all}
use Rattle.latin_board.specs.Boards.{BoardValue}
use Rattle.trail_solver.specs.Puzzles.{Puzzle}
use Rattle.game_texts.specs.declared.params.Params.{Params}
use Rattle.play_midend.specs.declared.extras.Extras.{Extras}
use Rattle.play_midend.specs.declared.moves.Move.{Move}
use Rattle.play_midend.specs.declared.fault.PlayFault.{PlayFault}
use Rattle.play_midend.specs.Steps.{refusal_of, moved, step, start_of, replay, ArePlayable, IsLegal, is_restart, begins_with_restart}
use Rattle.play_midend.specs.declared.session.TheConstants.{MOST_STATES}
use Rattle.play_midend.specs.Histories.{History, past, shown, started, with_move, at_position, first_state_refusal, full_refusal, refusal_in, played, undone}
use Rattle.play_midend.specs.MoveLists.{result_and_then, played_all, with_moves, undone_times}
use Rattle.play_midend.specs.Laws.{LegalListsPlay, AcceptedListsAreLegal, UndoLeadsBack, HistoriesAreReached}
use Rattle.play_midend.proofs.Making.{step_allowed}
use Rattle.play_midend.proofs.Replaying.{replay_from-append}
use Rattle.play_midend.proofs.Playing.{Allowed, allowed_in, accepted, not_refused, played_allowed}

-- of two calls, one after the other, the first was accepted, and the second with this answer
record AcceptedThen {A B : Type 0} (f : A → Result B PlayFault) (r : Result A PlayFault) (b : B) : Type 0 where
  pub mid : A
  pub first : r ≡ Ok mid
  pub rest : f mid ≡ Ok b

accepted_then : {A B : Type 0} (f : A → Result B PlayFault) (r : Result A PlayFault) (b : B) → result_and_then f r ≡ Ok b
    → AcceptedThen f r b
accepted_then f (Ok a) b is = record { mid = a; first = refl; rest = is }
accepted_then f (Err fault) b is = cc

-- the moves of a session at its last position are its past
past_all : {P : Type 0} (h : History P) (ks : List Move) → past (with_moves h ks) ≡ ks
past_all h ks = let e : length ks ≤ length ks + 1 - 1 = omega arith in take_all (length ks + 1 - 1) ks e

shown_all : {P : Type 0} (p : Puzzle) (h : History P) (ks : List Move) → shown p (with_moves h ks) ≡ replay p ks
shown_all p h ks = ap (λ ms. replay p ms) (past_all h ks)

pub with_move_last : {P : Type 0} (h : History P) (ks : List Move) (m : Move) → with_move (with_moves h ks) m ≡ with_moves h (ks ++ m ∷ [])
with_move_last {P} h ks m =
    let long : length ks + 1 + 1 ≡ length (ks ++ m ∷ []) + 1 = ap (λ n. n + 1) (sym (length-append ks (m ∷ []))) in
    ap (λ ms. at_position (with_moves h (ms ++ m ∷ [])) (length ks + 1 + 1)) (past_all h ks)
    ∙ ap (λ n. at_position (with_moves h (ks ++ m ∷ [])) n) long

-- a move isn't refused for the first state, if no restart is made there
restart_allowed : (position : ℕ) (m : Move) → (position ≡ 1 → is_restart m ≡ false) → first_state_refusal position m ≡ None
restart_allowed position m restart = grind (arith, nat_tests)

room_left : (position : ℕ) → position + 1 ≤ MOST_STATES → full_refusal position ≡ None
room_left position room = grind (arith, nat_tests)

-- after all moves of a session one more is accepted, if the board allows it and there is room
pub played_last : {P : Type 0} (p : Puzzle) (h : History P) (ks : List Move) (m : Move) → IsOk (step p (replay p ks) m)
    → length ks + 2 ≤ MOST_STATES → (length ks ≡ 0 → is_restart m ≡ false) → played p (with_moves h ks) m ≡ Ok (with_moves h (ks ++ m ∷ []))
played_last {P} p h ks m stepped room restart =
    let on_board : refusal_of p (shown p (with_moves h ks)) m ≡ None = rw (shown_all p h ks) (not_refused (refusal_of p (replay p ks) m) (moved p (replay p ks) m) stepped) in
    let first = restart_allowed (length ks + 1) m (λ one. restart (omega arith)) in
    let last = room_left (length ks + 1) (omega arith) in
    let none : refusal_in p (with_moves h ks) m ≡ None = rw (first, on_board, last) refl in
    played_allowed p (with_moves h ks) m none ∙ ap (λ k. let r : Result (History P) PlayFault = Ok k in r) (with_move_last h ks m)

-- moves that can be made in turn are accepted
played_along : {P : Type 0} (p : Puzzle) (h : History P) (ks ms : List Move) → ArePlayable p (replay p ks) ms
    → length ks + length ms + 1 ≤ MOST_STATES → (length ks ≡ 0 → begins_with_restart ms ≡ false)
    → played_all p (with_moves h ks) ms ≡ Ok (with_moves h (ks ++ ms))
played_along {P} p h ks [] playable room restart = ap (λ ms. let r : Result (History P) PlayFault = Ok (with_moves h ms) in r) (sym (append-nil ks))
played_along {P} p h ks (m ∷ ms) playable room restart =
    let one = played_last p h ks m playable.0 (omega arith) restart in
    let long : length (ks ++ m ∷ []) ≡ length ks + 1 = length-append ks (m ∷ []) in
    let later : ArePlayable p (replay p (ks ++ m ∷ [])) ms =
    subst (λ (b : BoardValue). ArePlayable p b ms) (sym (replay_from-append p (start_of p) ks (m ∷ []))) playable.1 in
    let more = played_along p h (ks ++ m ∷ []) ms later (omega (arith, long)) (λ none. absurd (omega (arith, long))) in
    ap (result_and_then (λ (next : History P). played_all p next ms)) one ∙ more
    ∙ ap (λ xs. let r : Result (History P) PlayFault = Ok (with_moves h xs) in r) (append_assoc ks (m ∷ []) ms)

-- moves that were accepted: they can be made in turn, there is room, and they are the moves of the session
record AcceptedAlong {P : Type 0} (p : Puzzle) (h : History P) (ks ms : List Move) (last : History P) : Type 0 where
  pub playable : ArePlayable p (replay p ks) ms
  pub restart : length ks ≡ 0 → begins_with_restart ms ≡ false
  pub few : length (ks ++ ms) + 1 ≤ MOST_STATES
  pub last_is : last ≡ with_moves h (ks ++ ms)

accepted_along : {P : Type 0} (p : Puzzle) (h : History P) (ks ms : List Move) (last : History P) → length ks + 1 ≤ MOST_STATES
    → played_all p (with_moves h ks) ms ≡ Ok last → AcceptedAlong p h ks ms last
accepted_along p h ks [] last room is =
    let e : with_moves h ks ≡ last = cc in
    record {
      playable = tt;
      restart = λ none. refl;
      few = rw (append-nil ks) room;
      last_is = sym e ∙ ap (λ ms. with_moves h ms) (sym (append-nil ks));
    }
accepted_along {P} p h ks (m ∷ ms) last room is =
    let both = accepted_then (λ (next : History P). played_all p next ms) (played p (with_moves h ks) m) last is in
    let one = accepted (refusal_in p (with_moves h ks) m) (with_move (with_moves h ks) m) both.mid both.first in
    let allowed = subst (λ (b : BoardValue). Allowed p (length ks + 1) b m) (shown_all p h ks) (allowed_in p (with_moves h ks) m one.0) in
    let mid : both.mid ≡ with_moves h (ks ++ m ∷ []) = sym one.1 ∙ with_move_last h ks m in
    let not_last = allowed.room in
    let long : length (ks ++ m ∷ []) ≡ length ks + 1 = length-append ks (m ∷ []) in
    let more = accepted_along p h (ks ++ m ∷ []) ms last (omega (arith, long))
    (subst (λ (k : History P). played_all p k ms ≡ Ok last) mid both.rest) in
    let same = append_assoc ks (m ∷ []) ms in
    let stepped : IsOk (step p (replay p ks) m) = rw (step_allowed p (replay p ks) m allowed.on_board) refl in
    record {
      playable = (stepped, subst (λ (b : BoardValue). ArePlayable p b ms) (replay_from-append p (start_of p) ks (m ∷ [])) more.playable);
      restart = λ none. allowed.restart (omega arith);
      few = subst (λ (xs : List Move). length xs + 1 ≤ MOST_STATES) same more.few;
      last_is = more.last_is ∙ ap (λ xs. with_moves h xs) same;
    }

-- from a new session a legal list that has room is accepted, and leads to the session with these moves
pub legal_list_played : {P : Type 0} (p : Puzzle) (puzzle : P) (params next_params : Params) (extras : Extras) (ms : List Move)
    → IsLegal p ms → length ms + 1 ≤ MOST_STATES
    → played_all p (started puzzle params next_params extras) ms ≡ Ok (with_moves (started puzzle params next_params extras) ms)
legal_list_played p puzzle params next_params extras ms legal few =
    played_along p (started puzzle params next_params extras) [] ms legal.playable (omega arith) (λ none. legal.no_restart_first)

-- a list of moves that was played can be played in turn, has room, and leads to the session of these moves
pub accepted_list_legal : {P : Type 0} (p : Puzzle) (puzzle : P) (params next_params : Params) (extras : Extras) (ms : List Move)
    (last : History P)
    → played_all p (started puzzle params next_params extras) ms ≡ Ok last
    → IsLegal p ms × (length ms + 1 ≤ MOST_STATES) × (last ≡ with_moves (started puzzle params next_params extras) ms)
accepted_list_legal p puzzle params next_params extras ms last is =
    let all = accepted_along p (started puzzle params next_params extras) [] ms last (omega arith) is in
    (record { playable = all.playable; no_restart_first = all.restart refl }, all.few, all.last_is)

pub legal_lists_play : {P : Type 0} (puzzle : P → Puzzle) → LegalListsPlay puzzle
legal_lists_play puzzle first params next_params extras ms legal few = legal_list_played (puzzle first) first params next_params extras ms legal few

pub accepted_lists_are_legal : {P : Type 0} (puzzle : P → Puzzle) → AcceptedListsAreLegal puzzle
accepted_lists_are_legal puzzle first params next_params extras ms last is = accepted_list_legal (puzzle first) first params next_params extras ms last is

-- one undo, and so many of them, lead back along the positions
pub undone_once : {P : Type 0} (h : History P) (position : ℕ) → 1 ≤ position
    → undone (at_position h (position + 1)) ≡ Ok (at_position h position)
undone_once h position low = grind (arith, nat_tests)

pub undone_to : {P : Type 0} (h : History P) (n position : ℕ) → 1 ≤ position
    → undone_times n (at_position h (position + n)) ≡ Ok (at_position h position)
undone_to {P} h zero position low =
    let e : position + zero ≡ position = omega arith in
    ap (λ k. let r : Result (History P) PlayFault = Ok (at_position h k) in r) e
undone_to {P} h (suc n) position low =
    let e : position + suc n ≡ position + n + 1 = omega arith in
    let more : 1 ≤ position + n = omega arith in
    ap (λ k. undone_times (suc n) (at_position h k)) e
    ∙ ap (result_and_then (λ (before : History P). undone_times n before)) (undone_once h (position + n) more)
    ∙ undone_to h n position low

-- n undos lead from a position to the one that is n lower
pub undo_leads_back : (P : Type 0) → UndoLeadsBack P
undo_leads_back P h n position low at =
    subst (λ k. undone_times n (at_position h k) ≡ Ok (at_position h position)) (sym at) (undone_to h n position low)

-- each valid session is reached from a new one by its moves, and then by undos
pub histories_are_reached : {P : Type 0} (puzzle : P → Puzzle) → HistoriesAreReached puzzle
histories_are_reached {P} puzzle h v =
    let low = v.first in
    let high = v.last in
    let whole = legal_list_played (puzzle h.puzzle) h.puzzle h.params h.next_params h.extras h.moves v.legal v.few in
    let back : length h.moves + 1 ≡ h.position + (length h.moves + 1 - h.position) = omega arith in
    ap (result_and_then (λ (last : History P). undone_times (length h.moves + 1 - h.position) last)) whole
    ∙ undo_leads_back P (with_moves h h.moves) (length h.moves + 1 - h.position) h.position low back

-- the laws of lists of moves, for the prover's search
pub ruleset list_laws = (legal_lists_play, accepted_lists_are_legal, histories_are_reached)

-- A session's links still lead from board to board once the board is exchanged with the link before or after it.
use Rattle.std.proofs.lemmas.Bool.Decides.{nat_tests}
use Rattle.std.proofs.Common.{◌≡◌, ◌≢◌, ℕ, suc, ◌+◌, ◌-◌, ◌<◌, ◌≤◌, false, List, [], ◌∷◌, ◌++◌, length, get_or, set, take, drop, Ok, refl, sym, ap, ◌∙◌, subst, arith, add-one, drop-cons}
use Rattle.std.proofs.lemmas.List.{length-set, length-append, length-map, take_at, drop_at, take-set, drop-set, drop-set-lt, map-append, length-take-le, get_or-set_same, take-map, take-append-drop}
use Rattle.std.proofs.Math.Seq.{take-suc, map-set_same}
use Rattle.latin_board.specs.Boards.{BoardValue}
use Rattle.latin_board.specs.Changes.{ChangeValue, OneSquare, WholeBoard, FitsBoard, board_after}
use Rattle.trail_solver.specs.Puzzles.{Puzzle}
use Rattle.play_midend.specs.declared.moves.Move.{Move}
use Rattle.play_midend.specs.declared.session.Link.{Link}
use Rattle.play_midend.specs.Steps.{step, start_of, replay_from, ArePlayable, IsLegal, is_restart}
use Rattle.play_midend.specs.declared.session.TheConstants.{MOST_STATES}
use Rattle.play_midend.specs.Inner.Links.{moves_of, IsBack, IsAhead, ArePast, AreLater, AreLinked}
use Rattle.play_midend.proofs.Replaying.{after_step, ArePlayable-append, restart_first-take, restart_first-push}

-- a change that fits a board keeps its size
pub size_after : (b : BoardValue) (change : ChangeValue) → FitsBoard b change → (board_after b change).size ≡ b.size
size_after b (OneSquare s) fits = refl
size_after b (WholeBoard other) fits = fits

-- the past links end with a link that takes the board back to the one before it
pub record LastBack (p : Puzzle) (first : BoardValue) (rs : List Link) (r : Link) (now : BoardValue) : Type 0 where
  pub before : BoardValue
  pub past : ArePast p first rs before
  pub is_back : IsBack p before r now

past_last : (p : Puzzle) (first : BoardValue) (rs : List Link) (r : Link) (now : BoardValue) → ArePast p first (rs ++ r ∷ []) now
    → LastBack p first rs r now
past_last p first [] r now (mid, back, same) =
    record { before = first; past = refl; is_back = subst (λ (b : BoardValue). IsBack p first r b) (sym same) back }
past_last p first (q ∷ rs) r now (mid, back, past) =
    let more = past_last p mid rs r now past in
    record { before = more.before; past = (mid, back, more.past); is_back = more.is_back }

past_more : (p : Puzzle) (first : BoardValue) (rs : List Link) (r : Link) (before now : BoardValue) → ArePast p first rs before
    → IsBack p before r now → ArePast p first (rs ++ r ∷ []) now
past_more p first [] r before now h back = (now, subst (λ (b : BoardValue). IsBack p b r now) h back, refl)
past_more p first (q ∷ rs) r before now (mid, one, past) back = (mid, one, past_more p mid rs r before now past back)

-- the first n + 1 links are the first n and the link at place n
take_there : (links : List Link) (n : ℕ) (r : Link) → n < length links → r ≡ get_or links n r
    → take (n + 1) links ≡ take n links ++ r ∷ []
take_there links n r inside is =
    rw add-one (take-suc links n r inside ∙ ap (λ x. take n links ++ x ∷ []) (sym is))

drop_there : (links : List Link) (n : ℕ) (r : Link) → n < length links → r ≡ get_or links n r
    → drop n links ≡ r ∷ drop (n + 1) links
drop_there links n r inside is =
    rw add-one (drop-cons links n r inside ∙ ap (λ x. x ∷ drop (suc n) links) (sym is))

-- another change at a link with the same move leaves the list of moves
pub moves_of-set : (links : List Link) (n : ℕ) (r q : Link) → r ≡ get_or links n r → q.made ≡ r.made
    → moves_of (set links n q) ≡ moves_of links
moves_of-set links n r q is made = map-set_same (λ (k : Link). k.made) links n q r (made ∙ ap (λ (k : Link). k.made) is)

-- the link before the position takes the board that is shown back
pub last_back : (p : Puzzle) (links : List Link) (n : ℕ) (board : BoardValue) (r : Link) → AreLinked p links (n + 1) board
    → r ≡ get_or links n r → LastBack p (start_of p) (take n links) r board
last_back p links n board r h is =
    past_last p (start_of p) (take n links) r board
    (subst (λ (rs : List Link). ArePast p (start_of p) rs board) (take_there links n r (let i = h.inside in omega arith) is) h.past)

pub linked_back : (p : Puzzle) (links : List Link) (n : ℕ) (board : BoardValue) (r q : Link) (new : BoardValue)
    → AreLinked p links (n + 1) board → r ≡ get_or links n r → new ≡ board_after board r.change → q.made ≡ r.made
    → FitsBoard new q.change → board_after new q.change ≡ board → AreLinked p (set links n q) n new
linked_back p links n board r q new h is at made fits back =
    let last = last_back p links n board r h is in
    let inside : n < length links = let i = h.inside in omega arith in
    let e : new ≡ last.before = at ∙ last.is_back.back in
    let stepped : step p new q.made ≡ Ok board = rw (e, made) last.is_back.stepped in
    record {
      size = at_size p board r.change new h.size last.is_back.fits at;
      inside = rw (length-set links n q) (omega arith);
      few = rw (length-set links n q) h.few;
      no_restart_first = rw (moves_of-set links n r q is made) h.no_restart_first;
      past = rw (take-set links n q, e) last.past;
      later = rw (drop-set links n q inside) (board, record { stepped = stepped; fits = fits; ahead = back }, h.later);
    }
  where
    at_size : (p : Puzzle) (board : BoardValue) (change : ChangeValue) (new : BoardValue) → board.size ≡ p.size → FitsBoard board change → new ≡ board_after board change → new.size ≡ p.size
    at_size p board change new size fits at = ap (λ (b : BoardValue). b.size) at ∙ size_after board change fits ∙ size

-- the first of the later links makes its move on the board, and those after it lead on from there
pub record FirstAhead (p : Puzzle) (now : BoardValue) (r : Link) (rs : List Link) : Type 0 where
  pub next : BoardValue
  pub is_ahead : IsAhead p now r next
  pub later : AreLater p next rs

pub first_ahead : (p : Puzzle) (links : List Link) (n : ℕ) (board : BoardValue) (r : Link) → AreLinked p links n board
    → n < length links → r ≡ get_or links n r → FirstAhead p board r (drop (n + 1) links)
first_ahead p links n board r h inside is = grind (arith, nat_tests, drop_there)

pub linked_ahead : (p : Puzzle) (links : List Link) (n : ℕ) (board : BoardValue) (r q : Link) (new : BoardValue)
    → AreLinked p links n board → n < length links → r ≡ get_or links n r → new ≡ board_after board r.change → q.made ≡ r.made
    → FitsBoard new q.change → board_after new q.change ≡ board → AreLinked p (set links n q) (n + 1) new
linked_ahead p links n board r q new h inside is at made fits back =
    let first = first_ahead p links n board r h inside is in
    let e : new ≡ first.next = at ∙ first.is_ahead.ahead in
    let stepped : step p board q.made ≡ Ok new = rw (e, made) first.is_ahead.stepped in
    let long : n < length (set links n q) = rw (length-set links n q) inside in
    let there : get_or (set links n q) n q ≡ q = get_or-set_same links n q q inside in
    let front : take (n + 1) (set links n q) ≡ take n links ++ q ∷ [] =
    take_there (set links n q) n q long (sym there) ∙ ap (λ rs. rs ++ q ∷ []) (take-set links n q) in
    record {
      size = ap (λ (b : BoardValue). b.size) at ∙ size_after board r.change first.is_ahead.fits ∙ h.size;
      inside = rw (length-set links n q) (omega arith);
      few = rw (length-set links n q) h.few;
      no_restart_first = rw (moves_of-set links n r q is made) h.no_restart_first;
      past = subst (λ (rs : List Link). ArePast p (start_of p) rs new) (sym front)
          (past_more p (start_of p) (take n links) q board new h.past (record { stepped = stepped; fits = fits; back = back }));
      later = subst (λ (rs : List Link). AreLater p new rs) (sym (drop-set-lt (n + 1) links n q (omega arith)))
          (subst (λ (b : BoardValue). AreLater p b (drop (n + 1) links)) (sym e) first.later);
    }

-- the past links with a new one after them, whose change makes its move on the board, are linked
pub linked_new : (p : Puzzle) (links : List Link) (n : ℕ) (board : BoardValue) (r : Link) (next : BoardValue)
    → AreLinked p links n board → IsAhead p board r next → n + 2 ≤ MOST_STATES → (n ≡ 0 → is_restart r.made ≡ false)
    → AreLinked p (take n links ++ r ∷ []) n board
linked_new p links n board r next h ahead room restart =
    grind (
      arith,
      nat_tests,
      length-take-le,
      length-append,
      map-append,
      take-map,
      restart_first-take,
      length-map,
      restart_first-push,
      take_at,
      drop_at,
    )

-- the moves of the past links, replayed from the first board, lead to the board after them
pub replay_past : (p : Puzzle) (first : BoardValue) (rs : List Link) (now : BoardValue) → ArePast p first rs now
    → replay_from p first (moves_of rs) ≡ now
replay_past p first [] now h = sym h
replay_past p first (r ∷ rs) now (mid, back, past) =
    ap (λ (b : BoardValue). replay_from p b (moves_of rs)) (after_step p first r.made mid back.stepped) ∙ replay_past p mid rs now past

pub shown_linked : (p : Puzzle) (links : List Link) (n : ℕ) (board : BoardValue) → AreLinked p links n board
    → replay_from p (start_of p) (take n (moves_of links)) ≡ board
shown_linked p links n board h = rw (take-map (λ (r : Link). r.made) n links) (replay_past p (start_of p) (take n links) board h.past)

past_playable : (p : Puzzle) (first : BoardValue) (rs : List Link) (now : BoardValue) → ArePast p first rs now
    → ArePlayable p first (moves_of rs)
past_playable p first [] now h = tt
past_playable p first (r ∷ rs) now (mid, back, past) =
    (rw back.stepped refl, subst (λ (b : BoardValue). ArePlayable p b (moves_of rs)) (sym (after_step p first r.made mid back.stepped)) (past_playable p mid rs now past))

later_playable : (p : Puzzle) (now : BoardValue) (rs : List Link) → AreLater p now rs → ArePlayable p now (moves_of rs)
later_playable p now [] h = tt
later_playable p now (r ∷ rs) (next, ahead, later) =
    (rw ahead.stepped refl, subst (λ (b : BoardValue). ArePlayable p b (moves_of rs)) (sym (after_step p now r.made next ahead.stepped)) (later_playable p next rs later))

pub legal_linked : (p : Puzzle) (links : List Link) (n : ℕ) (board : BoardValue) → AreLinked p links n board
    → IsLegal p (moves_of links)
legal_linked p links n board h =
    let whole : moves_of (take n links) ++ moves_of (drop n links) ≡ moves_of links =
    sym (map-append (λ r. r.made) (take n links) (drop n links)) ∙ ap moves_of (take-append-drop n links) in
    let later : ArePlayable p (replay_from p (start_of p) (moves_of (take n links))) (moves_of (drop n links)) =
    rw (replay_past p (start_of p) (take n links) board h.past) (later_playable p board (drop n links) h.later) in
    record {
      playable = subst (λ (ms : List Move). ArePlayable p (start_of p) ms) whole
          (ArePlayable-append p (start_of p) (moves_of (take n links)) (moves_of (drop n links)) (past_playable p (start_of p) (take n links) board h.past) later);
      no_restart_first = h.no_restart_first;
    }

-- a count of past links that isn't 0 is one more than its predecessor
pub with_one_less : (p : Puzzle) (links : List Link) (n : ℕ) (board : BoardValue) → AreLinked p links n board → n ≢ 0
    → AreLinked p links ((n - 1) + 1) board
with_one_less p links n board h some = let e : n ≡ (n - 1) + 1 = omega arith in subst (λ k. AreLinked p links k board) e h

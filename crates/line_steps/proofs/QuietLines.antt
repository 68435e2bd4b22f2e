-- Where the squares of each line strike nothing in one another, lone values and last places strike nothing that is left.
use Rattle.std.proofs.Common.{◌≡◌, ℕ, ◌*◌, ◌<◌, true, false, inl, inr, refl, sym, subst}
use Rattle.std.proofs.lemmas.Bool.{false_from_ne_true}
use Rattle.latin_board.specs.Lines.{line_cell}
use Rattle.latin_board.proofs.LatinLines.{peers_on_line}
use Rattle.trail_solver.specs.Pairs.{IsPair}
use Rattle.trail_solver.specs.Candidates.{CandidatesValue, may_be}
use Rattle.line_steps.specs.Left.{IsLeft, HasNoOther}
use Rattle.trail_solver.specs.Puzzles.{Puzzle}
use Rattle.line_steps.specs.Grades.{is_of_clues}
use Rattle.line_steps.specs.Settled.{AreGivensSettled}
use Rattle.line_steps.specs.Reasons.{AllStrikes, IsByPeer, IsByPlace, IsBySet, Striking}
use Rattle.line_steps.specs.declared.reason.Reason.{Reason}
use Rattle.line_steps.specs.declared.reason.Reason.TheVariants.{Given, Peer, Place, Set}
use Rattle.line_steps.specs.Inner.LineStrikes.{IsRestQuiet}

-- a pair that isn't left is gone
pub gone_from : (c : CandidatesValue) (cell v : ℕ) → IsPair c.size cell v → (IsLeft c cell v → ⊥) → may_be c cell v ≡ false
gone_from c cell v pair none = false_from_ne_true (may_be c cell v) (λ may. none (record { pair = pair; may = may }))

-- a lone value strikes nothing that is left where no line does
pub peer_quiet : (c : CandidatesValue) (by cell v : ℕ) → ((line : ℕ) → line < 2 * c.size → IsRestQuiet line c) → IsPair c.size cell v
    → IsByPeer c.size c by cell v → may_be c cell v ≡ false
peer_quiet c by cell v quiet pair h =
    let on = peers_on_line c.size by cell h.peers in
    let at = on.3 in
    let alone : HasNoOther c (line_cell c.size on.0 on.1) v = subst (λ (n : ℕ). HasNoOther c n v) (sym at.first_cell) h.alone in
    let there : IsPair c.size (line_cell c.size on.0 on.2) v = subst (λ (n : ℕ). IsPair c.size n v) (sym at.second_cell) pair in
    subst (λ (n : ℕ). may_be c n v ≡ false) at.second_cell
    (quiet on.0 at.line_is on.2 v at.second there (inl (on.1, at.first, at.apart, alone)))

-- a last place strikes nothing that is left where no line does
pub place_quiet : (c : CandidatesValue) (line index other cell v : ℕ) → ((line : ℕ) → line < 2 * c.size → IsRestQuiet line c) → IsPair c.size cell v
    → IsByPlace c.size c line index other cell v → may_be c cell v ≡ false
place_quiet c line index other cell v quiet pair h =
    let there : IsPair c.size (line_cell c.size line index) v = subst (λ (n : ℕ). IsPair c.size n v) h.here pair in
    subst (λ (n : ℕ). may_be c n v ≡ false) (sym h.here)
    (quiet line h.line_is index v h.index_is there (inr (other, h.low, h.high, h.apart, h.alone)))

-- no reason of a kind strikes anything more if givens, lines and the kind's clues, signs and groups don't
pub settled_by : (p : Puzzle) (Own : Striking) (Which : Reason → Type 0) (c : CandidatesValue) → c.size ≡ p.size
    → AreGivensSettled p c → ((line : ℕ) → line < 2 * c.size → IsRestQuiet line c)
    → ((reason : Reason) (cell value : ℕ) → is_of_clues reason ≡ true → Which reason → IsPair c.size cell value
    → AllStrikes p Own c reason cell value → may_be c cell value ≡ false)
    → ((line squares values cell value : ℕ) → Which (Set line squares values) → IsPair c.size cell value
    → IsBySet p.size c line squares values cell value → may_be c cell value ≡ false)
    → (reason : Reason) (cell value : ℕ) → Which reason → IsPair c.size cell value → AllStrikes p Own c reason cell value
    → may_be c cell value ≡ false
settled_by p Own Which c size givens rest clues groups (Given at) cell value is pair h = givens at cell value pair h
settled_by p Own Which c size givens rest clues groups (Peer by) cell value is pair h =
    peer_quiet c by cell value rest pair (subst (λ (w : ℕ). IsByPeer w c by cell value) (sym size) h)
settled_by p Own Which c size givens rest clues groups (Place line index other) cell value is pair h =
    place_quiet c line index other cell value rest pair (subst (λ (w : ℕ). IsByPlace w c line index other cell value) (sym size) h)
settled_by p Own Which c size givens rest clues groups (Set line squares values) cell value is pair h =
    groups line squares values cell value is pair h
settled_by p Own Which c size givens rest clues groups reason cell value is pair h = clues reason cell value refl is pair h

-- Values taken away along a row or column are struck by reasons; where nothing is taken these are quiet.
use Rattle.std.proofs.Common.{◌≡◌, ℕ, ◌*◌, ◌<◌, true, false, inl, inr, refl, sym, subst, arith}
use Rattle.std.proofs.lemmas.Bool.{both_ways, false_from_ne_true}
use Rattle.latin_board.specs.Lines.{line_cell}
use Rattle.latin_board.proofs.PeerLines.{line_peers}
use Rattle.number_sets.specs.Sets.{IsEmpty}
use Rattle.trail_solver.specs.Candidates.{CandidatesValue, may_be}
use Rattle.trail_solver.specs.Puzzles.{Puzzle}
use Rattle.line_steps.specs.Reasons.{AllStrikes, IsByLine, IsByPeer, IsByPlace, IsBySet, Striking}
use Rattle.line_steps.specs.Chains.{LeadsTo}
use Rattle.line_steps.specs.Grades.{has_reason}
use Rattle.line_steps.specs.Inner.LineStrikes.{IsByRest, IsLeftByRest, IsRestQuiet, StrikesRest}
use Rattle.line_steps.proofs.Chains.{higher_has}
use Rattle.line_steps.proofs.Leads.{HasStruck, leads_taken, leads_wider}
use Rattle.line_steps.specs.declared.reason.Reason.{Reason}
use Rattle.line_steps.specs.declared.grade.Grade.{Grade}
use Rattle.line_steps.specs.declared.reason.Reason.TheVariants.{Peer, Place, Set}
use Rattle.line_steps.specs.declared.grade.Grade.TheVariants.{Latin}
use Rattle.line_steps.specs.Laws.Less.{line_less}

-- what the other squares of a line strike is struck by a lone value or a last place
pub rest_reason : (c : CandidatesValue) (line index v : ℕ) → line < 2 * c.size → index < c.size → IsByRest c line index v
    → HasStruck (IsByLine c.size) Latin c (line_cell c.size line index) v
rest_reason c line index v line_is index_is h = elim h [
  | inl alone ↦ (
    Peer (line_cell c.size line alone.0),
    refl,
    record {
      peers = line_peers c.size line alone.0 index line_is alone.1 index_is alone.2;
      alone = alone.3;
    },
  )
  | inr last ↦ (
    Place line index last.0,
    refl,
    record {
      line_is = line_is;
      index_is = index_is;
      low = last.1;
      high = last.2;
      here = refl;
      apart = last.3;
      alone = last.4;
    },
  )
]

-- taking away what a line's squares strike in one another is a chain of lone values and last places
pub rest_leads : (line places : ℕ) (a b : CandidatesValue) → line < 2 * a.size → StrikesRest line places a b → LeadsTo (IsByLine a.size) Latin a b
rest_leads line places a b line_is h =
    leads_taken (IsByLine a.size) (line_less a.size) Latin
    (λ cell v. (k : ℕ) × (k < a.size) × (cell ≡ line_cell a.size line k) × IsLeftByRest a line k v) a b h.takes
    (λ cell v pair (k, low, here, by). subst (λ (n : ℕ). HasStruck (IsByLine a.size) Latin a n v) (sym here)
    (rest_reason a line k v line_is low by.0))

-- if nothing went at any place, nothing was left of what the line's squares strike in one another
pub rest_quiet : (line places : ℕ) (a b : CandidatesValue) → StrikesRest line places a b → IsEmpty places → IsRestQuiet line b
rest_quiet line places a b h none =
    let same : b ≡ a = h.changed.same none in
    subst (λ (d : CandidatesValue). IsRestQuiet line d) (sym same) (λ k v low pair by. false_from_ne_true (may_be a (line_cell a.size line k) v) (λ may.
    both_ways (may_be a (line_cell a.size line k) v) (subst (λ (d : CandidatesValue). may_be d (line_cell a.size line k) v ≡ false) same
    (h.takes.gone (line_cell a.size line k) v pair (k, low, refl, (by, record { pair = pair; may = may })))) may))

-- a reason of the lowest grade is one of each grade
pub latin_has : (grade : Grade) (reason : Reason) → has_reason Latin reason ≡ true → has_reason grade reason ≡ true
latin_has grade reason has = higher_has Latin grade (omega arith) reason has

-- ---- in a game

-- what rows and columns strike is struck by the game's reasons
pub lines_lift : (p : Puzzle) (Own : Striking) (w : ℕ) → w ≡ p.size
    → (c : CandidatesValue) (reason : Reason) (cell v : ℕ) → IsByLine w c reason cell v → AllStrikes p Own c reason cell v
lines_lift p Own w size c (Peer by) cell v h = subst (λ (n : ℕ). IsByPeer n c by cell v) size h
lines_lift p Own w size c (Place line index other) cell v h = subst (λ (n : ℕ). IsByPlace n c line index other cell v) size h
lines_lift p Own w size c (Set line squares values) cell v h = subst (λ (n : ℕ). IsBySet n c line squares values cell v) size h
lines_lift p Own w size c reason cell v h = absurd h

-- a chain along rows and columns is one of the game's
pub lines_lead : (p : Puzzle) (Own : Striking) (grade : Grade) (a b : CandidatesValue) → a.size ≡ p.size
    → LeadsTo (IsByLine a.size) Latin a b → LeadsTo (AllStrikes p Own) grade a b
lines_lead p Own grade a b size h =
    leads_wider (IsByLine a.size) (AllStrikes p Own) Latin grade (lines_lift p Own a.size size) (latin_has grade) a b h

-- a chain of the lowest grade is one of each grade
pub givens_lead : (Struck : Striking) (grade : Grade) (a b : CandidatesValue) → LeadsTo Struck Latin a b
    → LeadsTo Struck grade a b
givens_lead Struck grade a b h = leads_wider Struck Struck Latin grade (λ d reason cell v h. h) (latin_has grade) a b h

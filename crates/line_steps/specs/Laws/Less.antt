-- A reason that strikes a value from candidates strikes it from fewer.
use Rattle.std.proofs.Common.{ℕ}
use Rattle.trail_solver.specs.Candidates.{CandidatesValue}
use Rattle.trail_solver.specs.Puzzles.{Puzzle}
use Rattle.line_steps.specs.Left.{IsFewer, HasNoOther}
use Rattle.line_steps.specs.Reasons.{AllStrikes, IsByLine, IsByPeer, IsByPlace, IsBySet, Striking}
use Rattle.line_steps.specs.declared.reason.Reason.{Reason}
use Rattle.line_steps.specs.declared.reason.Reason.TheVariants.{Given, Peer, Place, Set}

-- a square without another candidate has none in fewer, either
pub no_other_less : (c d : CandidatesValue) (cell value : ℕ) → IsFewer c d → HasNoOther c cell value
    → HasNoOther d cell value
no_other_less c d cell value fewer alone = λ other left. alone other (fewer cell other left)

-- what a lone value strikes it strikes from fewer
pub peer_less : (w : ℕ) (c d : CandidatesValue) (by cell value : ℕ) → IsFewer c d → IsByPeer w c by cell value
    → IsByPeer w d by cell value
peer_less w c d by cell value fewer h = record { peers = h.peers; alone = no_other_less c d by value fewer h.alone }

-- what a last place strikes it strikes from fewer
pub place_less : (w : ℕ) (c d : CandidatesValue) (line index other cell value : ℕ) → IsFewer c d
    → IsByPlace w c line index other cell value
    → IsByPlace w d line index other cell value
place_less w c d line index other cell value fewer h = record {
  line_is = h.line_is;
  index_is = h.index_is;
  low = h.low;
  high = h.high;
  here = h.here;
  apart = h.apart;
  alone = λ k low left. h.alone k low (fewer _ other left);
}

-- what a group strikes it strikes from fewer
pub set_less : (w : ℕ) (c d : CandidatesValue) (line squares values cell value : ℕ) → IsFewer c d
    → IsBySet w c line squares values cell value
    → IsBySet w d line squares values cell value
set_less w c d line squares values cell value fewer h = record {
  line_is = h.line_is;
  inside = h.inside;
  same = h.same;
  among = λ k v has left. h.among k v has (fewer _ v left);
  index = h.index;
  index_is = h.index_is;
  here = h.here;
  outside = h.outside;
  one = h.one;
}

-- what rows and columns strike is struck from fewer candidates too
pub line_less : (w : ℕ) (c d : CandidatesValue) (reason : Reason) (cell value : ℕ) → IsFewer c d
    → IsByLine w c reason cell value → IsByLine w d reason cell value
line_less w c d (Peer by) cell value fewer h = peer_less w c d by cell value fewer h
line_less w c d (Place line index other) cell value fewer h = place_less w c d line index other cell value fewer h
line_less w c d (Set line squares values) cell value fewer h = set_less w c d line squares values cell value fewer h
line_less w c d reason cell value fewer h = absurd h

-- what is struck from candidates is struck from fewer, where that holds for a game's own reasons
pub all_less : (p : Puzzle) (Own : Striking)
    → ((c d : CandidatesValue) (reason : Reason) (cell value : ℕ) → IsFewer c d → Own c reason cell value
    → Own d reason cell value)
    → (c d : CandidatesValue) (reason : Reason) (cell value : ℕ) → IsFewer c d → AllStrikes p Own c reason cell value
    → AllStrikes p Own d reason cell value
all_less p Own own c d (Given at) cell value fewer h = h
all_less p Own own c d (Peer by) cell value fewer h = peer_less p.size c d by cell value fewer h
all_less p Own own c d (Place line index other) cell value fewer h =
    place_less p.size c d line index other cell value fewer h
all_less p Own own c d (Set line squares values) cell value fewer h =
    set_less p.size c d line squares values cell value fewer h
all_less p Own own c d reason cell value fewer h = own c d reason cell value fewer h

-- A reason that strikes a value in a cut of a puzzle strikes it in the whole.
use Rattle.std.proofs.Common.{◌≡◌, ℕ, ◌<◌, sym, ◌∙◌, subst, arith}
use Rattle.trail_solver.specs.Candidates.{CandidatesValue}
use Rattle.trail_solver.specs.Puzzles.{Puzzle}
use Rattle.line_steps.specs.Reasons.{AllStrikes, IsByGiven, IsByPeer, IsByPlace, IsBySet, Striking}
use Rattle.line_steps.specs.declared.reason.Reason.{Reason}
use Rattle.line_steps.specs.declared.reason.Reason.TheVariants.{Given, Peer, Place, Set}

-- a given that a cut has is that of the whole, so it strikes the same
pub given_whole : (cut p : Puzzle) (at cell value : ℕ) → (0 < cut.given at → cut.given at ≡ p.given at)
    → IsByGiven cut at cell value → IsByGiven p at cell value
given_whole cut p at cell value kept h =
    let same = kept h.given in
    record { here = h.here; given = omega (arith, h.given, same); apart = λ e. h.apart (e ∙ sym same) }

-- a pair that is struck in a cut of a puzzle is struck in the whole, if the game's own reasons obey this
pub all_whole : (cut p : Puzzle) (First Own : Striking) → cut.size ≡ p.size
    → ((at : ℕ) → 0 < cut.given at → cut.given at ≡ p.given at)
    → ((c : CandidatesValue) (reason : Reason) (cell value : ℕ) → First c reason cell value → Own c reason cell value)
    → (c : CandidatesValue) (reason : Reason) (cell value : ℕ) → AllStrikes cut First c reason cell value
    → AllStrikes p Own c reason cell value
all_whole cut p First Own size given own c (Given at) cell value h = given_whole cut p at cell value (given at) h
all_whole cut p First Own size given own c (Peer by) cell value h =
    subst (λ (w : ℕ). IsByPeer w c by cell value) size h
all_whole cut p First Own size given own c (Place line index other) cell value h =
    subst (λ (w : ℕ). IsByPlace w c line index other cell value) size h
all_whole cut p First Own size given own c (Set line squares values) cell value h =
    subst (λ (w : ℕ). IsBySet w c line squares values cell value) size h
all_whole cut p First Own size given own c reason cell value h = own c reason cell value h

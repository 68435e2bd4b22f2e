-- The reasons that look along lines in every game: a clue or a sign alone, and in the lowest grade none.
use Rattle.std.proofs.Common.{◌≡◌, ℕ, ◌*◌, ◌<◌, true, false, subst}
use Rattle.std.proofs.lemmas.Bool.{both_ways, false_from_ne_true}
use Rattle.trail_solver.specs.Pairs.{IsPair}
use Rattle.trail_solver.specs.Candidates.{CandidatesValue, may_be}
use Rattle.trail_solver.specs.Puzzles.{Puzzle}
use Rattle.line_steps.specs.Left.{IsFewer}
use Rattle.line_steps.specs.Reasons.{AllStrikes, Striking}
use Rattle.line_steps.specs.Along.{StaysOn, LooksAlong, IsQuietAlong}
use Rattle.line_steps.specs.Grades.{is_of_clues}
use Rattle.line_steps.specs.declared.reason.Reason.{Reason}
use Rattle.line_steps.specs.declared.reason.Reason.TheVariants.{Given, Peer, Place, Bound, Stand, Clue, Sign, Set}
use Rattle.line_steps.specs.declared.grade.Grade.{Grade}
use Rattle.line_steps.specs.declared.grade.Grade.TheVariants.{Latin}

-- a pair that is gone from candidates is gone from fewer of the same size
pub was_gone : (c d : CandidatesValue) (cell value : ℕ) → d.size ≡ c.size → IsFewer c d → IsPair d.size cell value
    → (IsPair c.size cell value → may_be c cell value ≡ false) → may_be d cell value ≡ false
was_gone c d cell value same fewer pair gone =
    false_from_ne_true (may_be d cell value) (λ may.
    both_ways (may_be c cell value) (gone (subst (λ (w : ℕ). IsPair w cell value) same pair))
    (fewer cell value (record { pair = pair; may = may })).may)

-- a pair that a reason strikes along a line was struck before, if all stayed there and own reasons obey this
pub all_look : (p : Puzzle) (Own : Striking)
    → ((c d : CandidatesValue) (reason : Reason) (cell value line : ℕ) → c.size ≡ p.size → line < 2 * c.size
    → LooksAlong c.size line reason cell → StaysOn line c d → Own d reason cell value → Own c reason cell value)
    → (c d : CandidatesValue) (reason : Reason) (cell value line : ℕ) → c.size ≡ p.size → line < 2 * c.size
    → LooksAlong c.size line reason cell → StaysOn line c d → AllStrikes p Own d reason cell value
    → AllStrikes p Own c reason cell value
all_look p Own own c d (Given at) cell value line size low along stays h = absurd along
all_look p Own own c d (Peer by) cell value line size low along stays h = absurd along
all_look p Own own c d (Place at index other) cell value line size low along stays h = absurd along
all_look p Own own c d (Set at squares values) cell value line size low along stays h = absurd along
all_look p Own own c d reason cell value line size low along stays h =
    own c d reason cell value line size low along stays h

-- where a game's own reasons strike nothing along a line, no reason does
pub quiet_own : (p : Puzzle) (Own : Striking) (grade : Grade) (line : ℕ) (c : CandidatesValue)
    → IsQuietAlong Own grade line c → IsQuietAlong (AllStrikes p Own) grade line c
quiet_own p Own grade line c quiet (Given at) cell value has along pair h = absurd along
quiet_own p Own grade line c quiet (Peer by) cell value has along pair h = absurd along
quiet_own p Own grade line c quiet (Place at index other) cell value has along pair h = absurd along
quiet_own p Own grade line c quiet (Set at squares values) cell value has along pair h = absurd along
quiet_own p Own grade line c quiet reason cell value has along pair h = quiet reason cell value has along pair h

-- what a clue or a sign strikes is struck by a game's own reasons
pub clue_own : (p : Puzzle) (Own : Striking) (c : CandidatesValue) (reason : Reason) (cell value : ℕ)
    → is_of_clues reason ≡ true → AllStrikes p Own c reason cell value → Own c reason cell value
clue_own p Own c (Given at) cell value is h = absurd (cc)
clue_own p Own c (Peer by) cell value is h = absurd (cc)
clue_own p Own c (Place at index other) cell value is h = absurd (cc)
clue_own p Own c (Set at squares values) cell value is h = absurd (cc)
clue_own p Own c reason cell value is h = h

-- the lowest grade looks at no clue and no sign
pub latin_along : (Struck : Striking) (line : ℕ) (c : CandidatesValue) → IsQuietAlong Struck Latin line c
latin_along Struck line c (Bound place) cell value has along = absurd (cc)
latin_along Struck line c (Stand place) cell value has along = absurd (cc)
latin_along Struck line c (Clue place) cell value has along = absurd (cc)
latin_along Struck line c (Sign from to) cell value has along = absurd (cc)
latin_along Struck line c reason cell value has along = absurd along

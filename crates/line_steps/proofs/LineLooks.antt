-- Which lines wait after a look along one, and what is settled when none waits.
use Rattle.std.proofs.lemmas.Bool.Decides.{nat_tests}
use Rattle.std.proofs.Common.{◌≡◌, ◌≢◌, ℕ, ◌*◌, ◌<◌, Bool, true, false, not, nat_lt, ◌||◌, ◌==◌, ◌/◌, ◌%◌, length, inl, inr, sym, ◌∙◌, subst, arith}
use Rattle.std.proofs.lemmas.Bool.{both_ways, cases_eq, or_parts, eq-eqb, lt-ltb, false_from_ne_true}
use Rattle.std.proofs.lemmas.Nat.{div_below, mod_below}
use Rattle.number_sets.specs.Sets.{has_number, IsEmpty}
use Rattle.latin_board.specs.Lines.{line_cell}
use Rattle.latin_board.proofs.LatinLines.{line_cell_of_row, some_width}
use Rattle.trail_solver.specs.Pairs.{IsPair}
use Rattle.trail_solver.specs.Candidates.{CandidatesValue, may_be}
use Rattle.line_steps.specs.Left.{IsLeft, IsFewer, IsLive}
use Rattle.line_steps.specs.Inner.ChangedLines.{HasNoneBelow, IsNoted, IsTaken, LosesLine}
use Rattle.line_steps.specs.Inner.LineStrikes.{IsLineSettled}
use Rattle.line_steps.proofs.LineSets.{lost_other}
use Rattle.line_steps.specs.Along.{LooksAlong, StandsAlong, IsQuietAlong, StaysOn, LosesAt}
use Rattle.trail_solver.specs.Puzzles.{Puzzle}
use Rattle.line_steps.specs.Laws.Along.{clue_own}
use Rattle.line_steps.specs.Settled.{AreCluesSettled}
use Rattle.line_steps.specs.Takes.{is_crossing}
use Rattle.line_steps.specs.Inner.LineLooks.{AreQuietBut, AreMore, AreWaiting, IsLook, IsNoneWaiting, IsQuietOn, waiting_for}
use Rattle.line_steps.proofs.StayingLines.{live_stays, quiet_stays, stays_apart, stays_all}
use Rattle.line_steps.specs.declared.grade.Grade.{Grade}
use Rattle.line_steps.specs.declared.lines.waiting.Waiting.{Waiting}
use Rattle.line_steps.specs.declared.reason.Reason.{Reason}
use Rattle.line_steps.specs.Reasons.{AllStrikes, Striking}

-- a game's own reasons look along lines
abbrev pub StandOnLines : Puzzle → Striking → Type 0
StandOnLines p Own =
    (c : CandidatesValue) (reason : Reason) (cell value : ℕ) → Own c reason cell value → StandsAlong p.size reason cell

-- a pair that a reason strikes along a line was struck by it before, if all stayed that was left of the line
abbrev pub AreLooksAlong : ℕ → Striking → Type 0
AreLooksAlong w Struck =
    (c d : CandidatesValue) (reason : Reason) (cell value line : ℕ) → c.size ≡ w → line < 2 * c.size → LooksAlong c.size line reason cell
    → StaysOn line c d → Struck d reason cell value → Struck c reason cell value

-- clues and signs that strike nothing along a line strike nothing there while all of its squares stay
along_stays : (w : ℕ) (Struck : Striking) → AreLooksAlong w Struck → (grade : Grade) (line : ℕ) (c d : CandidatesValue)
    → c.size ≡ w → line < 2 * c.size → d.size ≡ c.size → IsFewer c d → StaysOn line c d → IsQuietAlong Struck grade line c → IsQuietAlong Struck grade line d
along_stays w Struck law grade line c d is low size fewer stays quiet = λ reason cell value has along pair struck.
    let there : LooksAlong c.size line reason cell = subst (λ (n : ℕ). LooksAlong n line reason cell) size along in
    let was : IsPair c.size cell value = subst (λ (n : ℕ). IsPair n cell value) size pair in
    let gone = quiet reason cell value has there was (law c d reason cell value line is low there stays struck) in
    false_from_ne_true (may_be d cell value) (λ may.
    both_ways (may_be c cell value) gone (fewer cell value (record { pair = pair; may = may })).may)

-- if clues and signs strike nothing that is left along any line, they strike nothing at all that is left
pub along_settled : (p : Puzzle) (Own : Striking) → StandOnLines p Own → (grade : Grade) (c : CandidatesValue) → c.size ≡ p.size
    → ((line : ℕ) → line < 2 * c.size → IsQuietAlong (AllStrikes p Own) grade line c) → AreCluesSettled (AllStrikes p Own) grade c
along_settled p Own stand grade c size quiet = λ reason cell value is has pair struck.
    let (line, low, along) = stand c reason cell value (clue_own p Own c reason cell value is struck) in
    quiet line (omega (arith, low, size)) reason cell value has (subst (λ (n : ℕ). LooksAlong n line reason cell) (sym size) along) pair struck

-- ---- what is quiet along a line

-- what holds of one of two and of the other holds of both
for_both : (P : Bool → Type 0) (what : Bool) → P what → P (not what) → (x : Bool) → P x
for_both P true one other true = one
for_both P true one other false = other
for_both P false one other true = other
for_both P false one other false = one

-- candidates that are quiet along a line stay quiet there as long as its squares lose nothing
abbrev pub IsStaying : ℕ → (ℕ → CandidatesValue → Type 0) → Type 0
IsStaying w Quiet =
    (line : ℕ) (c d : CandidatesValue) → c.size ≡ w → line < 2 * c.size → d.size ≡ c.size → IsFewer c d → StaysOn line c d → Quiet line c → Quiet line d

-- both kinds of quiet stay as long as the line's squares lose nothing: of squares, and of clues and signs
pub looks_stay : (w : ℕ) (Struck : Striking) → AreLooksAlong w Struck → (grade : Grade) (what : Bool) → IsStaying w (IsQuietOn Struck grade what)
looks_stay w Struck law grade true line c d is low size fewer stays settled = grind (arith, nat_tests, live_stays, quiet_stays)
looks_stay w Struck law grade false line c d is low size fewer stays quiet = along_stays w Struck law grade line c d is low size fewer stays quiet

-- ---- what is noted of a look

-- once a look along a line is noted, each line that lost something waits
pub more_noted : (line places first last : ℕ) (a b : CandidatesValue) → line < 2 * a.size → LosesAt line places a b
    → IsNoted a.size line places first last → AreMore first last a b
more_noted line places first last a b on loses noted = elim noted [
  | inl (none, same_set) ↦ λ l low free. (subst (λ (n : ℕ). has_number n l ≡ false) same_set free, stays_all line places l a b none loses)
  | inr (some, gains) ↦ λ l low free.
      let both = or_parts (has_number first l) ((l == line) || is_crossing a.size line places l) (sym (gains l) ∙ free) in
      let parts = or_parts (l == line) (is_crossing a.size line places l) both.1 in
      let apart : l ≢ line = λ same. both_ways (l == line) parts.0 (eq-eqb l line same) in
      (both.0, stays_apart line places l a b on low apart parts.1 loses)
]

-- if the line doesn't wait after its look is noted, nothing went at its places
none_noted : (w line places first last : ℕ) → IsNoted w line places first last → has_number last line ≡ false → IsEmpty places
none_noted w line places first last noted free = grind (arith, nat_tests, or_parts, both_ways, eq-eqb)

-- a look that is noted for squares and for clues is noted for either
pub each_noted : (w line places : ℕ) (old new : Waiting) → IsNoted w line places old.squares new.squares → IsNoted w line places old.clues new.clues
    → (what : Bool) → IsNoted w line places (waiting_for what old) (waiting_for what new)
each_noted w line places old new squares clues true = squares
each_noted w line places old new squares clues false = clues

-- lines outside a set stay quiet if each line of which something went comes into the set
pub more_quiet : (w : ℕ) (Quiet : ℕ → CandidatesValue → Type 0) → IsStaying w Quiet → (first last : ℕ) (a b : CandidatesValue) → a.size ≡ w
    → b.size ≡ a.size → IsFewer a b → AreMore first last a b → AreQuietBut Quiet first a → AreQuietBut Quiet last b
more_quiet w Quiet staying first last a b is size fewer more quiet line low free =
    let low_a : line < 2 * a.size = omega (arith, low, size) in
    let before = more line low_a free in
    staying line a b is low_a size fewer before.1 (quiet line low_a before.0)

-- after a look along a line that is noted, each line that doesn't wait is quiet
one_noted : (w : ℕ) (Quiet : ℕ → CandidatesValue → Type 0) → IsStaying w Quiet → (line places before first last : ℕ) (a b : CandidatesValue)
    → a.size ≡ w → b.size ≡ a.size → IsFewer a b → line < 2 * a.size → LosesAt line places a b → LosesLine line before first
    → IsNoted a.size line places first last → (IsEmpty places → Quiet line b) → AreQuietBut Quiet before a → AreQuietBut Quiet last b
one_noted w Quiet staying line places before first last a b is size fewer on loses taken noted here quiet l low free =
    let low_a : l < 2 * a.size = omega (arith, low, size) in
    elim (cases_eq l line) [
      | inl same ↦ subst (λ (n : ℕ). Quiet n b) (sym same)
          (here (none_noted a.size line places first last noted (subst (λ (n : ℕ). has_number last n ≡ false) same free)))
      | inr other ↦
          let was = more_noted line places first last a b on loses noted l low_a free in
          staying l a b is low_a size fewer was.1 (quiet l low_a (sym (lost_other line l before first taken other) ∙ was.0))
    ]

-- after a look for squares or for clues, each line that doesn't wait for one of these is quiet for it
pub looked : (w : ℕ) (Quiet : Bool → ℕ → CandidatesValue → Type 0) → ((what : Bool) → IsStaying w (Quiet what)) → (what : Bool)
    (count line places : ℕ) (was now last : Waiting) (a b : CandidatesValue) → a.size ≡ w → b.size ≡ a.size → IsFewer a b → line < 2 * a.size
    → LosesAt line places a b → IsLook count was now what line
    → ((x : Bool) → IsNoted a.size line places (waiting_for x now) (waiting_for x last)) → (IsEmpty places → Quiet what line b)
    → ((x : Bool) → AreQuietBut (Quiet x) (waiting_for x was) a) → (x : Bool) → AreQuietBut (Quiet x) (waiting_for x last) b
looked w Quiet staying what count line places was now last a b is size fewer on loses look noted here quiet =
    let same : AreQuietBut (Quiet what) (waiting_for what last) b =
    one_noted w (Quiet what) (staying what) line places (waiting_for what was) (waiting_for what now) (waiting_for what last) a b is size fewer on
    loses look.taken.rest (noted what) here (quiet what) in
    let x = not what in
    let other : AreQuietBut (Quiet x) (waiting_for x last) b =
    more_quiet w (Quiet x) (staying x) (waiting_for x now) (waiting_for x last) a b is size fewer
    (more_noted line places (waiting_for x now) (waiting_for x last) a b on loses (noted x))
    (subst (λ (n : ℕ). AreQuietBut (Quiet x) n a) (sym look.other) (quiet x)) in
    for_both (λ y. AreQuietBut (Quiet y) (waiting_for y last) b) what same other

-- ---- takes

-- if no line waits for its squares, and none for its clues, then none waits
pub none_waits : (count : ℕ) (waiting : Waiting) → HasNoneBelow count waiting.squares → HasNoneBelow count waiting.clues → IsNoneWaiting count waiting
none_waits count waiting squares clues true = squares
none_waits count waiting squares clues false = clues

-- taking out a line that waited for its squares is a look for squares
pub squares_look : (count : ℕ) (old new : Waiting) (line : ℕ) → IsTaken count old.squares new.squares line → new.clues ≡ old.clues
    → IsLook count old new true line
squares_look count old new line taken other = record { taken = taken; other = other }

-- taking out a line that waited for its clues or signs is a look for these
pub clues_look : (count : ℕ) (old new : Waiting) (line : ℕ) → IsTaken count old.clues new.clues line → new.squares ≡ old.squares
    → IsLook count old new false line
clues_look count old new line taken other = record { taken = taken; other = other }

-- at first all lines wait
pub all_wait : (Struck : Striking) (grade : Grade) (waiting : Waiting) (c : CandidatesValue) (count : ℕ)
    → ((line : ℕ) → line < 2 * c.size → line < count) → ((line : ℕ) → has_number waiting.squares line ≡ nat_lt line count)
    → ((line : ℕ) → has_number waiting.clues line ≡ nat_lt line count) → AreWaiting Struck grade waiting c
all_wait Struck grade waiting c count inside squares clues true = λ line low free.
    absurd (both_ways (has_number waiting.squares line) free (squares line ∙ lt-ltb line count (inside line low)))
all_wait Struck grade waiting c count inside squares clues false = λ line low free.
    absurd (both_ways (has_number waiting.clues line) free (clues line ∙ lt-ltb line count (inside line low)))

-- if each line is settled, something is left of each square, and of each number in each line
pub lines_live : (c : CandidatesValue) → ((line : ℕ) → line < 2 * c.size → IsLineSettled line c) → IsLive c
lines_live c settled = record {
  cells = λ cell inside.
      let some = some_width c.size cell inside in
      let row : cell / c.size < c.size = div_below cell c.size c.size some inside in
      let (v, left) = (settled (cell / c.size) (omega (arith, row))).live.some (cell % c.size) (mod_below cell c.size some) in
      (v, subst (λ (n : ℕ). IsLeft c n v) (line_cell_of_row c.size cell inside) left);
  lines = λ line value low from to. (settled line low).live.placed value from to;
}

-- if the trail is as long as before, there is no place at which something went
pub none_lost : (line places : ℕ) (a b : CandidatesValue) → LosesAt line places a b → length b.trail ≡ length a.trail → IsEmpty places
none_lost line places a b h still = λ k.
    false_from_ne_true (has_number places k) (λ has. let longer = h.went k has in omega (arith, still, longer))

-- if all lines wait that lost something from a to b, and those from b to c, so do those from a to c
pub more_joined : (first middle last : ℕ) (a b c : CandidatesValue) → b.size ≡ a.size → AreMore first middle a b → AreMore middle last b c
    → AreMore first last a c
more_joined first middle last a b c size one two = λ line low free.
    let second = two line (omega (arith, low, size)) free in
    let before = one line low second.0 in
    let Stays : ℕ → Type 0 = λ w. (k v : ℕ) → k < w → IsLeft b (line_cell w line k) v → IsLeft c (line_cell w line k) v in
    let on : Stays a.size = subst Stays size second.1 in
    (before.0, λ k v k_is left. on k v k_is (before.1 k v k_is left))

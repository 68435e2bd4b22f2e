-- The strikes of Unequal's signs: from fewer candidates too, in no solution, in the whole puzzle if in a cut,
-- and along which lines.
use Rattle.std.proofs.lemmas.Bool.Decides.{nat_tests}
use Rattle.std.proofs.Common.{◌≡◌, ◌≢◌, ℕ, ◌*◌, ◌<◌, ◌≤◌, ◌⊎◌, Bool, inl, inr, arith}
use Rattle.latin_board.specs.Squares.{GridValue, number_at}
use Rattle.trail_solver.specs.Candidates.{CandidatesValue, IsWithin}
use Rattle.trail_solver.specs.Puzzles.{Solves}
use Rattle.unequal_game.specs.Unequal.{UnequalValue, IsUnequal, IsGreater, HoldsSigns, cut_unequal, unequal_puzzle}
use Rattle.line_steps.specs.Left.{IsLeft, IsFewer}
use Rattle.unequal_game.specs.UnequalReasons.{IsBySign, IsUnequalOwn, IsUnequalStruckBy}
use Rattle.line_steps.specs.Along.{StaysOn, AreNextOn, LooksAlong, StandsAlong, IsQuietAlong}
use Rattle.unequal_game.specs.Inner.SignLooks.{IsSignQuiet, AreSignsQuiet}
use Rattle.line_steps.specs.Laws.Along.{quiet_own, was_gone}
use Rattle.line_steps.specs.Laws.Less.{all_less}
use Rattle.unequal_game.specs.Laws.Neighbours.{IsNext, next_inside, next_line}
use Rattle.unequal_game.specs.Laws.SignLemmas.{signs_held}
use Rattle.unequal_game.specs.Laws.Signs.{greater_next}
use Rattle.line_steps.specs.Laws.Sound.{IsSquareOf, square_of}
use Rattle.unequal_game.specs.Laws.UnequalItems.{cut_greater}
use Rattle.line_steps.specs.declared.reason.Reason.{Reason}
use Rattle.line_steps.specs.declared.reason.Reason.TheVariants.{Sign}
use Rattle.line_steps.specs.declared.grade.Grade.{Grade}

-- ---- fewer candidates

-- a sign strikes the same value in another puzzle and from other candidates, if that puzzle says of the same
-- squares that they are the greater, and no more is left of the square by which the sign strikes
sign_from : (v u : UnequalValue) (from to cell value : ℕ) (c d : CandidatesValue)
    → ((a b : ℕ) → IsGreater v a b → IsGreater u a b) → ((x : ℕ) → IsLeft d from x → IsLeft c from x)
    → IsBySign v c from to cell value → IsBySign u d from to cell value
sign_from v u from to cell value c d says fewer h = grind (arith, nat_tests)

-- a sign strikes from fewer candidates all that it strikes from more
pub unequal_own_less : (v : UnequalValue) (c d : CandidatesValue) (reason : Reason) (cell value : ℕ) → IsFewer c d
    → IsUnequalOwn v c reason cell value → IsUnequalOwn v d reason cell value
unequal_own_less v c d reason cell value fewer h = grind (arith, nat_tests, sign_from)

-- each reason of Unequal strikes from fewer candidates all that it strikes from more
pub unequal_less : (v : UnequalValue) (c d : CandidatesValue) (reason : Reason) (cell value : ℕ) → IsFewer c d
    → IsUnequalStruckBy v c reason cell value → IsUnequalStruckBy v d reason cell value
unequal_less v = all_less (unequal_puzzle v) (IsUnequalOwn v) (unequal_own_less v)

-- ---- solutions

-- both squares of a sign are on the grid
pub ends_inside : (v : UnequalValue) (a b : ℕ) → IsUnequal v → IsGreater v a b
    → (a < v.size * v.size) × (b < v.size * v.size)
ends_inside v a b valid h = elim (greater_next v a b valid h) [
  | inl up ↦ (up.0.inside, next_inside v.size a b valid.givens.smallest up.0)
  | inr down ↦ (next_inside v.size b a valid.givens.smallest down.0, down.0.inside)
]

sign_sound : (v : UnequalValue) (c : CandidatesValue) (g : GridValue) (from to cell value : ℕ) → IsUnequal v
    → HoldsSigns v g
    → IsSquareOf v.size c g → IsBySign v c from to cell value → number_at g cell ≢ value
sign_sound v c g from to cell value valid holds s h = grind (arith, nat_tests, ends_inside)

-- a value that a sign strikes is in no solution within the candidates
pub unequal_sound : (v : UnequalValue) (c : CandidatesValue) (reason : Reason) (cell value : ℕ) (g : GridValue)
    → IsUnequal v → c.size ≡ v.size
    → Solves (unequal_puzzle v) g → IsWithin c g → IsUnequalOwn v c reason cell value → number_at g cell ≢ value
unequal_sound v c (Sign from to) cell value g valid size solved within h =
    sign_sound v c g from to cell value valid (signs_held v g valid solved.clues)
    (square_of (unequal_puzzle v) c g size solved within) h
unequal_sound v c reason cell value g valid size solved within h = absurd h

-- ---- cuts

-- a value that a sign strikes in a cut it strikes in the whole puzzle
pub unequal_whole : (v : UnequalValue) (keep : ℕ → Bool) (c : CandidatesValue) (reason : Reason) (cell value : ℕ)
    → IsUnequalOwn (cut_unequal v keep) c reason cell value → IsUnequalOwn v c reason cell value
unequal_whole v keep c (Sign from to) cell value h =
    sign_from (cut_unequal v keep) v from to cell value c c (cut_greater v keep) (λ x left. left) h
unequal_whole v keep c reason cell value h = absurd h

-- ---- lines

-- a sign struck before what it strikes now, if nothing went from the square by which it strikes
pub sign_was : (v : UnequalValue) (from to cell value : ℕ) (c d : CandidatesValue)
    → ((u : ℕ) → IsLeft c from u → IsLeft d from u)
    → IsBySign v d from to cell value → IsBySign v c from to cell value
sign_was v from to cell value c d stays h = sign_from v v from to cell value d c (λ a b up. up) stays h

-- a sign that strikes nothing more still strikes nothing more if nothing goes at either end
pub sign_stays : (v : UnequalValue) (a b : ℕ) (c d : CandidatesValue) → d.size ≡ c.size → IsFewer c d
    → ((u : ℕ) → IsLeft c a u → IsLeft d a u)
    → ((u : ℕ) → IsLeft c b u → IsLeft d b u) → IsSignQuiet v a b c → IsSignQuiet v a b d
sign_stays v a b c d same fewer first second quiet cell value pair = grind (arith, nat_tests, was_gone, sign_was)

-- a sign that looks along a line struck before what it strikes now, if nothing went along the line
pub unequal_look : (v : UnequalValue) (c d : CandidatesValue) (reason : Reason) (cell value line : ℕ) → c.size ≡ v.size
    → line < 2 * c.size
    → LooksAlong c.size line reason cell → StaysOn line c d → IsUnequalOwn v d reason cell value
    → IsUnequalOwn v c reason cell value
unequal_look v c d reason cell value line size low along stays h = grind (arith, nat_tests, sign_was)

-- neighbours follow one another on a line
next_on : (w a b : ℕ) → 3 ≤ w → IsNext w a b → (line : ℕ) × (line < 2 * w) × AreNextOn w line a b
next_on w a b small next =
    let on = next_line w a b small next in
    (on.line, on.line_is, (on.place, on.place_is, on.first, on.second))

sign_on : (v : UnequalValue) (a b : ℕ) → IsUnequal v → IsGreater v a b
    → (line : ℕ) × (line < 2 * v.size) × (AreNextOn v.size line a b ⊎ AreNextOn v.size line b a)
sign_on v a b valid h = elim (greater_next v a b valid h) [
  | inl next ↦ let (line, low, on) = next_on v.size a b valid.givens.smallest next.0 in (line, low, inl on)
  | inr back ↦ let (line, low, on) = next_on v.size b a valid.givens.smallest back.0 in (line, low, inr on)
]

turned : (w line a b : ℕ) → AreNextOn w line a b ⊎ AreNextOn w line b a → AreNextOn w line b a ⊎ AreNextOn w line a b
turned w line a b (inl h) = inr h
turned w line a b (inr h) = inl h

-- a sign that strikes looks along a line
pub unequal_stand : (v : UnequalValue) (c : CandidatesValue) (reason : Reason) (cell value : ℕ) → IsUnequal v
    → IsUnequalOwn v c reason cell value → StandsAlong v.size reason cell
unequal_stand v c reason cell value valid h = grind (arith, nat_tests, sign_on, turned)

-- if the signs along a line strike nothing more, no reason by a sign that looks along it does
signs_own : (v : UnequalValue) (grade : Grade) (line : ℕ) (c : CandidatesValue) → AreSignsQuiet v line c
    → IsQuietAlong (IsUnequalOwn v) grade line c
signs_own v grade line c quiet reason cell value has along pair h = grind (arith, nat_tests)

-- if the signs along a line strike nothing more, no reason of Unequal that looks along it does
pub signs_along : (v : UnequalValue) (grade : Grade) (line : ℕ) (c : CandidatesValue) → AreSignsQuiet v line c
    → IsQuietAlong (IsUnequalStruckBy v) grade line c
signs_along v grade line c quiet = quiet_own (unequal_puzzle v) (IsUnequalOwn v) grade line c (signs_own v grade line c quiet)

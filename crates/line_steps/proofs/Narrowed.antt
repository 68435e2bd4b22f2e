-- Candidates that are narrowed by steps: each solution is kept, and each struck value is gone.
use Rattle.std.proofs.lemmas.Bool.Decides.{nat_tests}
use Rattle.std.proofs.Common.{◌≡◌, ℕ, ◌*◌, ◌<◌, Bool, true, false, sym, ◌∙◌, subst, arith}
use Rattle.std.specs.Bool.{OnFalse, OnTrue}
use Rattle.trail_solver.specs.Candidates.{CandidatesValue, IsEarlier, IsWithin, may_be}
use Rattle.trail_solver.specs.Pairs.{IsPair}
use Rattle.trail_solver.specs.Puzzles.{Puzzle}
use Rattle.trail_solver.specs.Solutions.{HasNoSolutionWithin, KeepsSolutions}
use Rattle.line_steps.specs.Grades.{has_reason, is_of_clues}
use Rattle.line_steps.specs.Left.{IsEmptied, IsLive}
use Rattle.line_steps.specs.Inner.LineLooks.{IsQuietOn}
use Rattle.line_steps.specs.Inner.LineStrikes.{IsRestQuiet}
use Rattle.line_steps.specs.Settled.{AreGivensSettled}
use Rattle.line_steps.specs.Chains.{LeadsTo}
use Rattle.line_steps.specs.Reasons.{AllStrikes, Striking}
use Rattle.line_steps.specs.Struck.{IsNarrowed, NoneLeft, is_narrowing}
use Rattle.line_steps.proofs.Chains.{IsAntitone}
use Rattle.line_steps.proofs.Emptied.{solved_holds}
use Rattle.line_steps.proofs.KeptSolutions.{IsSoundFor, chain_keeps}
use Rattle.line_steps.proofs.Leads.{leads_earlier, leads_fewer, leads_size}
use Rattle.line_steps.proofs.LineLooks.{StandOnLines, along_settled, lines_live}
use Rattle.line_steps.proofs.QuietLines.{settled_by}
use Rattle.line_steps.specs.declared.grade.Grade.{Grade}
use Rattle.line_steps.specs.declared.grade.Grade.TheVariants.{Hard}
use Rattle.line_steps.specs.declared.reason.Reason.{Reason}
use Rattle.line_steps.specs.declared.reason.Reason.TheVariants.{Given, Peer, Place, Bound, Stand, Clue, Sign, Set}

-- ---- answers

-- if P gives Q, an answer that promises P when it is true promises Q
pub on_true : (b : Bool) {P Q : Type 0} → (P → Q) → OnTrue b P → OnTrue b Q
on_true true f h = f h
on_true false f h = tt

-- if P gives Q, an answer that promises P when it is false promises Q
pub on_false : (b : Bool) {P Q : Type 0} → (P → Q) → OnFalse b P → OnFalse b Q
on_false true f h = tt
on_false false f h = f h

-- ---- solutions

-- a chain keeps each solution
pub leads_keep : (p : Puzzle) (Struck : Striking) → IsSoundFor p Struck → (grade : Grade) (a b : CandidatesValue) → a.size ≡ p.size
    → LeadsTo Struck grade a b → KeepsSolutions p a b
leads_keep p Struck sound grade a b size h = λ g solves within.
    subst (λ (d : CandidatesValue). IsWithin d g) (sym h.is) (chain_keeps p Struck sound a h.steps g size h.chain solves within)

-- if a chain leaves a square nothing, no solution was within the candidates that it starts from
pub leads_refute : (p : Puzzle) (Struck : Striking) → IsSoundFor p Struck → (grade : Grade) (a b : CandidatesValue) (left : Bool) → a.size ≡ p.size
    → LeadsTo Struck grade a b → OnFalse left (IsEmptied b) → OnFalse left (HasNoSolutionWithin p a)
leads_refute p Struck sound grade a b left size h =
    on_false left (λ emptied g solves within. solved_holds p Struck sound grade g a b size solves within h emptied)

-- ---- what is struck

-- if givens, lines, clues and signs each strike nothing that is left, only groups of squares may strike more
pub settled_but : (p : Puzzle) (Own : Striking) (c : CandidatesValue) → c.size ≡ p.size
    → AreGivensSettled p c → ((line : ℕ) → line < 2 * c.size → IsRestQuiet line c)
    → ((reason : Reason) (cell value : ℕ) → is_of_clues reason ≡ true → IsPair c.size cell value → AllStrikes p Own c reason cell value
    → may_be c cell value ≡ false)
    → NoneLeft (IsNarrowed (AllStrikes p Own)) c c
settled_but p Own c size givens rest clues cell value pair (reason, is, h) =
    settled_by p Own (λ which. is_narrowing which ≡ true) c size givens rest (λ which cell value of _ pair h. clues which cell value of pair h)
    (λ line squares values cell value group pair h. absurd (cc)) reason cell value is pair h

-- ---- narrowing by lines

-- the highest grade has each reason
hard_has : (reason : Reason) → has_reason Hard reason ≡ true
hard_has (Given at) = grind (arith, nat_tests)
hard_has (Peer by) = grind (arith, nat_tests)
hard_has (Place line index value) = grind (arith, nat_tests)
hard_has (Bound place) = grind (arith, nat_tests)
hard_has (Stand place) = grind (arith, nat_tests)
hard_has (Clue place) = grind (arith, nat_tests)
hard_has (Sign from to) = grind (arith, nat_tests)
hard_has (Set line squares values) = grind (arith, nat_tests)

-- what narrowing by lines promises
pub record NarrowsBy (p : Puzzle) (Struck : Striking) (a b : CandidatesValue) (left : Bool) : Type 0 where
  pub less : IsEarlier a b
  pub keeps : KeepsSolutions p a b
  pub refutes : OnFalse left (HasNoSolutionWithin p a)
  pub struck : OnTrue left (NoneLeft (IsNarrowed Struck) a b)
  pub settled : OnTrue left (NoneLeft (IsNarrowed Struck) b b)
  pub live : OnTrue left (IsLive b)

-- a chain to where no given and no line strikes anything more keeps the promises of narrowing by lines
pub narrows_by : (p : Puzzle) (Own : Striking) → IsAntitone (AllStrikes p Own) → IsSoundFor p (AllStrikes p Own) → StandOnLines p Own
    → (a b : CandidatesValue) (left : Bool) → a.size ≡ p.size → LeadsTo (AllStrikes p Own) Hard a b → AreGivensSettled p b
    → OnTrue left ((line : ℕ) → line < 2 * b.size → (what : Bool) → IsQuietOn (AllStrikes p Own) Hard what line b) → OnFalse left (IsEmptied b)
    → NarrowsBy p (AllStrikes p Own) a b left
narrows_by p Own less sound stand a b left size h givens quiet emptied =
    let Struck = AllStrikes p Own in
    let same = leads_size Struck Hard a b h in
    let settles : ((line : ℕ) → line < 2 * b.size → (what : Bool) → IsQuietOn Struck Hard what line b) → NoneLeft (IsNarrowed Struck) b b = λ each.
    let clues = along_settled p Own stand Hard b (same ∙ size) (λ line low. each line low false) in
    settled_but p Own b (same ∙ size) givens (λ line low. (each line low true).quiet)
    (λ reason cell value is pair struck. clues reason cell value is (hard_has reason) pair struck) in
    record {
      less = leads_earlier Struck Hard a b h;
      keeps = leads_keep p Struck sound Hard a b size h;
      refutes = leads_refute p Struck sound Hard a b left size h emptied;
      struck = on_true left (λ each cell value pair (reason, is, struck).
          settles each cell value (subst (λ (w : ℕ). IsPair w cell value) (sym same) pair)
          (reason, is, less a b reason cell value (leads_fewer Struck Hard a b h) struck)) quiet;
      settled = on_true left settles quiet;
      live = on_true left (λ each. lines_live b (λ line low. each line low true)) quiet;
    }

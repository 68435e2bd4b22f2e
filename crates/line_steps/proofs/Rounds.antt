-- From passes to what a grade leaves.
use Rattle.std.proofs.lemmas.Bool.Decides.{nat_tests}
use Rattle.std.proofs.lemmas.Bool.{leb-true}
use Rattle.std.proofs.Common.{◌≡◌, ℕ, ◌*◌, ◌<◌, ◌≤◌, Bool, true, false, sym, subst, arith}
use Rattle.trail_solver.specs.Candidates.{CandidatesValue}
use Rattle.trail_solver.specs.Puzzles.{Puzzle}
use Rattle.line_steps.specs.Left.{IsLeft}
use Rattle.line_steps.specs.Reasons.{AllStrikes, IsBySet, IsByLine, Striking}
use Rattle.line_steps.specs.Grades.{has_reason, IsLower, rank}
use Rattle.line_steps.specs.Settled.{IsSettled, IsClosure, AreCluesSettled, AreGivensSettled}
use Rattle.line_steps.specs.Chains.{LeadsTo}
use Rattle.line_steps.specs.Inner.LineStrikes.{IsRestQuiet}
use Rattle.line_steps.specs.Inner.Groups.{IsGroupQuiet}
use Rattle.line_steps.specs.Inner.LineLooks.{IsQuietOn}
use Rattle.line_steps.proofs.GivenPasses.{givens_stay}
use Rattle.line_steps.proofs.LineLooks.{StandOnLines, along_settled}
use Rattle.line_steps.proofs.QuietGroups.{set_quiet}
use Rattle.line_steps.proofs.QuietLines.{settled_by}
use Rattle.line_steps.proofs.Leads.{leads_fewer, leads_on, leads_size, leads_wider}
use Rattle.line_steps.specs.declared.grade.Grade.{Grade}
use Rattle.line_steps.specs.declared.grade.Grade.TheVariants.{Easy, Hard}
use Rattle.line_steps.proofs.LinePasses.{lines_lift}

-- if givens, lines, clues, signs and the grade's groups each strike nothing more, the grade is settled
pub settled_all : (p : Puzzle) (Own : Striking) (grade : Grade) (c : CandidatesValue) → c.size ≤ 9
    → c.size ≡ p.size → AreGivensSettled p c → ((line : ℕ) → line < 2 * c.size → IsRestQuiet line c) → AreCluesSettled (AllStrikes p Own) grade c
    → (IsLower Easy grade → (line : ℕ) → line < 2 * c.size → IsGroupQuiet line c) → IsSettled (AllStrikes p Own) grade c
settled_all p Own grade c small size givens rest clues groups =
    settled_by p Own (λ reason. has_reason grade reason ≡ true) c size givens rest clues
    (λ line squares values cell value has pair h.
    set_quiet c line squares values cell value small rest (groups (omega (arith, leb-true 2 (rank grade) has))) pair
    (subst (λ (w : ℕ). IsBySet w c line squares values cell value) (sym size) h))

-- ---- the passes of one round

-- a chain of groups is one of the game's, where the grade looks at them
pub groups_lead : (p : Puzzle) (Own : Striking) (grade : Grade) (a b : CandidatesValue) → a.size ≡ p.size → grade ≡ Hard
    → LeadsTo (IsByLine a.size) Hard a b → LeadsTo (AllStrikes p Own) grade a b
groups_lead p Own grade a b size highest h = grind (arith, nat_tests, leads_wider, lines_lift)

-- a chain leads from the first candidates to the present ones, and givens strike nothing more there
pub record IsOnTheWay (p : Puzzle) (Own : Striking) (grade : Grade) (first now : CandidatesValue) : Type 0 where
  pub leads : LeadsTo (AllStrikes p Own) grade first now
  pub givens : AreGivensSettled p now

-- a further chain keeps this: the whole leads there, and givens strike nothing more
pub goes_further : {p : Puzzle} {Own : Striking} {grade : Grade} {first now next : CandidatesValue} → IsOnTheWay p Own grade first now
    → LeadsTo (AllStrikes p Own) grade now next → IsOnTheWay p Own grade first next
goes_further {p = p} {Own = Own} {grade = grade} {first = first} {now = now} {next = next} h leads = record {
  leads = leads_on (AllStrikes p Own) grade first now next h.leads leads;
  givens = givens_stay p now next (leads_size (AllStrikes p Own) grade now next leads) (leads_fewer (AllStrikes p Own) grade now next leads) h.givens;
}

-- ---- looks until no line waits

-- where no line waits, and groups strike nothing, nothing more is struck
pub look_settled : (p : Puzzle) (Own : Striking) → StandOnLines p Own → (grade : Grade) (c : CandidatesValue) → c.size ≤ 9 → c.size ≡ p.size
    → AreGivensSettled p c → ((line : ℕ) → line < 2 * c.size → (what : Bool) → IsQuietOn (AllStrikes p Own) grade what line c)
    → (IsLower Easy grade → (line : ℕ) → line < 2 * c.size → IsGroupQuiet line c) → IsSettled (AllStrikes p Own) grade c
look_settled p Own stand grade c small size givens quiet groups =
    settled_all p Own grade c small size givens (λ line low. (quiet line low true).quiet)
    (along_settled p Own stand grade c size (λ line low. quiet line low false)) groups

-- settled candidates that a chain of the grade leads to are those that the grade leaves
pub closure_reached : (Struck : Striking) (grade : Grade) (a b : CandidatesValue) → LeadsTo Struck grade a b
    → IsSettled Struck grade b → IsClosure Struck grade a b
closure_reached Struck grade a b lead settled = record {
  steps = lead.steps;
  chain = lead.chain;
  allowed = lead.allowed;
  size = leads_size Struck grade a b lead;
  left = (
    λ cell value left. subst (λ d. IsLeft d cell value) lead.is left,
    λ cell value left. subst (λ d. IsLeft d cell value) (sym lead.is) left,
  );
  settled = settled;
}

-- The least grade whose steps lead to an aim, and what no steps lead to.
use Rattle.std.proofs.lemmas.Bool.Decides.{nat_tests}
use Rattle.std.proofs.Common.{◌≡◌, Option, Some, None, ℕ, ◌*◌, ◌<◌, ◌≤◌, Bool, false, List, [], ◌∷◌, sym, ◌∙◌, subst, arith, inl, inr, true}
use Rattle.std.proofs.lemmas.Bool.{cases_eq, both_ways}
use Rattle.trail_solver.specs.Pairs.{IsPair}
use Rattle.trail_solver.specs.Candidates.{CandidatesValue, may_be}
use Rattle.line_steps.specs.Left.{IsLeft, IsEmptied, IsFewer}
use Rattle.line_steps.specs.Grades.{has_reason, IsLower, rank}
use Rattle.step_chains.specs.Inner.Views.{SeenValue, IsSeen}
use Rattle.line_steps.specs.Chains.{StepValue, LeadsTo, AreOfGrade}
use Rattle.line_steps.specs.Settled.{IsClosure, IsSettled}
use Rattle.line_steps.proofs.Leads.{leads_on, leads_size, leads_wider}
use Rattle.line_steps.proofs.Rounds.{closure_reached}
use Rattle.std.specs.Bool.{OnTrue, OnFalse}
use Rattle.std.specs.Option.{MatchOption}
use Rattle.named_steps.proofs.Antitone.{closure_fewer}
use Rattle.line_steps.proofs.Chains.{IsAntitone, higher_has}
use Rattle.line_steps.specs.declared.reason.Reason.{Reason}
use Rattle.line_steps.specs.declared.grade.Grade.{Grade}
use Rattle.line_steps.specs.declared.grade.Grade.TheVariants.{Latin, Easy, Hard}
use Rattle.named_steps.specs.declared.goal.Goal.{Goal}
use Rattle.named_steps.specs.declared.goal.Goal.TheVariants.{OnlyValue}
use Rattle.step_chains.specs.declared.aims.Aim.{Aim}
use Rattle.step_chains.specs.declared.aims.Aim.TheVariants.{Number, Nothing}
use Rattle.step_chains.specs.ChainValues.{HasSome}
use Rattle.step_chains.specs.NextHints.{IsForcedSquare}
use Rattle.step_chains.specs.Inner.FromEachView.{IsRefutedGrid, NothingIsShown, NoneBelowRefutes, NoneBelowShows}
use Rattle.step_chains.specs.Inner.Aims.{AreLeftBy, IsAimOrRefuted, IsLeastBy, IsLeftNothing, IsOver, LeadNowhere}
use Rattle.step_chains.specs.Inner.Goals.{IsOpenShown}
use Rattle.step_chains.proofs.Explanations.{empty_shown, none_refuted, nothing_shown, shown_by_all, views_fewer}
use Rattle.line_steps.specs.Reasons.{Striking}

-- ---- one grade after another

-- candidates that steps of a grade leave are left by steps of a higher grade, too
pub left_up : (Struck : Striking) (lower grade : Grade) (g : SeenValue) (c : CandidatesValue) → rank lower ≤ rank grade → AreLeftBy Struck lower g c
    → AreLeftBy Struck grade g c
left_up Struck lower grade g c h (view, is, leads) = search (arith, leads_wider, higher_has)

-- candidates that steps of a grade and then more of its steps leave are left by steps of the grade
pub left_on : (Struck : Striking) (grade : Grade) (g : SeenValue) (c d : CandidatesValue) → AreLeftBy Struck grade g c → LeadsTo Struck grade c d
    → AreLeftBy Struck grade g d
left_on Struck grade g c d (view, is, leads) more = (view, is, leads_on Struck grade view c d leads more)

-- candidates that steps of a grade leave have the grid's size
pub left_size : (Struck : Striking) (grade : Grade) (g : SeenValue) (c : CandidatesValue) → AreLeftBy Struck grade g c → c.size ≡ g.grid.size
left_size Struck grade g c (view, is, leads) = leads_size Struck grade view c leads ∙ is.size

-- if a grade is settled or a square is left nothing, and no square is, the grade is over
over_by : (Struck : Striking) (grade : Grade) (g : SeenValue) (d : CandidatesValue) (b : Bool) → AreLeftBy Struck grade g d
    → OnTrue b (IsSettled Struck grade d) → OnFalse b (IsEmptied d) → HasSome d → IsOver Struck grade g d
over_by Struck grade g d true (view, is, leads) settled emptied some = (view, is, closure_reached Struck grade view d leads settled, some)
over_by Struck grade g d false left settled (at, inside, nothing) some = let (value, has) = some at inside in absurd (nothing value has)

-- if a search for a square that is left nothing finds none, the grade is over
pub over_found : (Struck : Striking) (grade : Grade) (g : SeenValue) (d : CandidatesValue) (b : Bool) (found : Option ℕ)
    → AreLeftBy Struck grade g d → OnTrue b (IsSettled Struck grade d) → OnFalse b (IsEmptied d)
    → MatchOption found (HasSome d) (IsLeftNothing d) → MatchOption found (IsOver Struck grade g d) (IsLeftNothing d)
over_found Struck grade g d b (Some cell) left settled emptied nothing = nothing
over_found Struck grade g d b None left settled emptied some = over_by Struck grade g d b left settled emptied some

-- the steps of a grade that is over don't refute the grid's numbers
pub over_holds : (Struck : Striking) → IsAntitone Struck → (grade : Grade) (g : SeenValue) (d : CandidatesValue) → IsOver Struck grade g d
    → IsRefutedGrid Struck grade g → ⊥
over_holds Struck less grade g d (view, is, closed, some) = none_refuted Struck less grade g view d is closed some

-- the steps of a grade that is over show no number, if the candidates that it leaves show none
pub over_silent : (Struck : Striking) → IsAntitone Struck → (grade : Grade) (g : SeenValue) (d : CandidatesValue) → IsOver Struck grade g d
    → ((goal : Goal) → IsOpenShown g.grid d goal → ⊥) → NothingIsShown Struck grade g
over_silent Struck less grade g d (view, is, closed, some) none = nothing_shown Struck less grade g view d is closed none

-- ---- the grades below one

-- no grade is below the least one
pub below_latin : (P : Grade → Type 0) (lower : Grade) → IsLower lower Latin → P lower
below_latin P lower h = grind (arith, nat_tests)

-- a property of the least grade is one of each grade below the second
pub below_easy : (P : Grade → Type 0) → P Latin → (lower : Grade) → IsLower lower Easy → P lower
below_easy P first lower h = grind (arith, nat_tests)

-- a property of the two lower grades is one of each grade below the hardest
pub below_hard : (P : Grade → Type 0) → P Latin → P Easy → (lower : Grade) → IsLower lower Hard → P lower
below_hard P first second lower h = grind (arith, nat_tests)

-- ---- the least grade that leads to an aim

-- a square that a grade leaves nothing is a least aim, if no grade below refutes the grid
pub emptied_least : (Struck : Striking) → IsAntitone Struck → (grade : Grade) (g : SeenValue) (d : CandidatesValue)
    (cell : ℕ) → AreLeftBy Struck grade g d → IsLeftNothing d cell → NoneBelowRefutes Struck grade g
    → IsLeastBy Struck g grade (Nothing cell)
emptied_least Struck less grade g d cell (view, is, leads) found below = (
  subst (λ (w : ℕ). cell < w * w) (leads_size Struck grade view d leads ∙ is.size) found.0,
  shown_by_all Struck less grade g view d (OnlyValue cell 0) is leads ((empty_shown d cell).0 found.1),
  below,
)

-- a number that a grade shows is a least aim, if no grade below shows any and none refutes the grid
pub shown_least : (Struck : Striking) → IsAntitone Struck → (grade : Grade) (g : SeenValue) (d : CandidatesValue)
    (goal : Goal) → AreLeftBy Struck grade g d → IsOpenShown g.grid d goal → NoneBelowShows Struck grade g
    → (IsRefutedGrid Struck Hard g → ⊥) → IsLeastBy Struck g grade (Number goal)
shown_least Struck less grade g d goal (view, is, leads) found below holds = search (arith, shown_by_all)

-- ---- squares that are forced

-- the hardest grade has each reason
hard_all : (reason : Reason) → has_reason Hard reason ≡ true
hard_all reason = grind (arith, nat_tests)

-- all steps are of the hardest grade
all_hard : (steps : List StepValue) → AreOfGrade Hard steps
all_hard [] = tt
all_hard (step ∷ steps) = (hard_all step.reason, all_hard steps)

-- where no steps refute the grid's numbers, all steps come to their aim
pub aim_stays : (Struck : Striking) (grade : Grade) (g : SeenValue) (aim end : Aim)
    → IsAimOrRefuted Struck grade g aim end → (IsRefutedGrid Struck Hard g → ⊥) → end ≡ aim
aim_stays Struck grade g aim end ended holds = grind (arith, nat_tests, all_hard)

-- where the hardest grade leaves something of each square and shows no number, no square is forced
pub none_forced : (Struck : Striking) → IsAntitone Struck → (g : SeenValue) (view d : CandidatesValue) → IsSeen g view
    → IsClosure Struck Hard view d → HasSome d → ((goal : Goal) → IsOpenShown g.grid d goal → ⊥) → (other : CandidatesValue) (cell : ℕ) → IsSeen g other
    → IsForcedSquare Struck g.grid other cell → ⊥
none_forced Struck less g view d is closed some none other cell other_is f =
    let size : d.size ≡ g.grid.size = closed.size ∙ is.size in
    let fewer : IsFewer other d = λ k v left. views_fewer g other view other_is is k v (closure_fewer Struck Hard view d closed k v left) in
    let only : (u : ℕ) → IsLeft d cell u → u ≡ f.number = λ u left.
    elim (cases_eq u f.number) [
      | inl same ↦ same
      | inr apart ↦
          let pair : IsPair g.grid.size cell u = subst (λ (w : ℕ). IsPair w cell u) size left.pair in
          let (reason, struck) = f.others u pair apart in
          absurd (both_ways (may_be d cell u)
          (closed.settled reason cell u (hard_all reason) left.pair (less other d reason cell u fewer struck)) left.may)
    ] in
    let (value, left) = some cell (subst (λ (w : ℕ). cell < w * w) (sym size) f.inside) in
    none (OnlyValue cell value) (grind arith)

-- where the hardest grade is over and shows no number, no steps lead on
pub nowhere_left : (Struck : Striking) → IsAntitone Struck → (g : SeenValue) (d : CandidatesValue) → IsOver Struck Hard g d
    → ((goal : Goal) → IsOpenShown g.grid d goal → ⊥) → LeadNowhere Struck g
nowhere_left Struck less g d (view, is, closed, some) none = search (arith, nothing_shown, none_refuted, none_forced)

-- Chains in two pieces, of which the first is taken away already.
use Rattle.std.proofs.Common.{◌≡◌, ◌↔◌, ℕ, ◌-◌, Bool, List, ◌++◌, length, take, drop, sym, ap, ◌∙◌, subst, arith}
use Rattle.std.specs.Bool.{IsTrue}
use Rattle.std.proofs.lemmas.List.{map-append, take-append-drop}
use Rattle.trail_solver.specs.Candidates.{CandidatesValue}
use Rattle.line_steps.specs.Chains.{StepValue, left_by}
use Rattle.named_steps.specs.Chains.{Shows}
use Rattle.line_steps.proofs.Chains.{IsAntitone, chain_less, left_size, left_append, chain_split}
use Rattle.named_steps.proofs.Shown.{shown_less}
use Rattle.line_steps.specs.declared.grade.Grade.{Grade}
use Rattle.named_steps.specs.declared.goal.Goal.{Goal}
use Rattle.line_steps.specs.Reasons.{Striking}
use Rattle.step_chains.specs.declared.chain.Step.{Step}
use Rattle.step_chains.specs.ChainValues.{step_value, steps_of}
use Rattle.step_chains.specs.Inner.Replays.{IsGradeChain, Leads}
use Rattle.step_chains.proofs.Followed.{allowed_split, leads_joined, shows_where, from_place}

-- the steps before a place and then those from it on are all steps
parts_of : (steps : List Step) (place : ℕ) → steps_of (take place steps) ++ steps_of (drop place steps) ≡ steps_of steps
parts_of steps place = sym (map-append step_value (take place steps) (drop place steps)) ∙ ap steps_of (take-append-drop place steps)

-- the first steps of a chain are a chain
pub first_chain : (Struck : Striking) (grade : Grade) (c : CandidatesValue) (steps : List Step) (place : ℕ) → IsGradeChain Struck grade c (steps_of steps)
    → IsGradeChain Struck grade c (steps_of (take place steps))
first_chain Struck grade c steps place chain =
    let h = subst (IsGradeChain Struck grade c) (sym (parts_of steps place)) chain in
    let front = steps_of (take place steps) in
    let back = steps_of (drop place steps) in
    ((chain_split Struck c front back h.0).0, (allowed_split grade front back h.1).0)

-- the later steps show a goal from what the first ones leave exactly if all steps show it
pub rest_shows : (Struck : Striking) → IsAntitone Struck → (grade : Grade) (c d : CandidatesValue) (front back : List StepValue) (goal : Goal)
    → Leads Struck grade c front d → Shows Struck grade d back goal ↔ Shows Struck grade c (front ++ back) goal
rest_shows Struck less grade c d front back goal first = (
  λ shows.
      let end = left_by d back in
      let to : Leads Struck grade d back end =
      record { chain = shows.chain; allowed = shows.allowed; size = left_size d back; alike = (λ cell v h. h, λ cell v h. h) } in
      (shows_where Struck grade c end (front ++ back) goal (leads_joined Struck less grade c d end front back first to)).0 shows.shown,
  λ shows.
      let size : (left_by c front).size ≡ d.size = left_size c front ∙ sym first.size in
      let split = chain_split Struck c front back shows.chain in
      let rest = chain_less Struck less (left_by c front) d back size first.alike.0 split.1 in
      record {
        chain = rest.0;
        allowed = (allowed_split grade front back shows.allowed).1;
        shown = grind (arith, shown_less, left_size, left_append);
      },
)

-- a test of whether the later steps show the goal tells whether all steps show it
pub rest_tested : (Struck : Striking) → IsAntitone Struck → (grade : Grade) (c d : CandidatesValue) (steps : List Step) (place : ℕ) (goal : Goal)
    (b : Bool) → Leads Struck grade c (steps_of (take place steps)) d
    → (IsTrue b ↔ Shows Struck grade d (steps_of (take (length steps - place) (drop place steps))) goal)
    → IsTrue b ↔ Shows Struck grade c (steps_of steps) goal
rest_tested Struck less grade c d steps place goal b first is =
    let rest = take (length steps - place) (drop place steps) in
    let both = rest_shows Struck less grade c d (steps_of (take place steps)) (steps_of rest) goal first in grind (arith, from_place)

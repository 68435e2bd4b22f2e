-- The strikes of givens, square by square.
use Rattle.std.proofs.lemmas.Bool.Decides.{nat_tests}
use Rattle.std.proofs.Common.{◌≡◌, ◌≢◌, ◌↔◌, ℕ, ◌*◌, ◌<◌, true, nat_le, ◌&&◌, ◌==◌, not, refl, sym, subst, arith}
use Rattle.std.proofs.lemmas.Bool.{both_ways}
use Rattle.number_sets.specs.Sets.{has_number}
use Rattle.trail_solver.specs.Pairs.{IsPair}
use Rattle.trail_solver.specs.Candidates.{CandidatesValue}
use Rattle.trail_solver.specs.Puzzles.{Puzzle}
use Rattle.line_steps.specs.Reasons.{AllStrikes, IsByGiven, Striking}
use Rattle.line_steps.specs.Left.{IsFewer}
use Rattle.line_steps.specs.Chains.{LeadsTo}
use Rattle.line_steps.specs.Settled.{IsGivenQuiet, AreGivensSettled}
use Rattle.line_steps.specs.Takes.{Strikes, Takes}
use Rattle.line_steps.proofs.Chains.{IsAntitone}
use Rattle.line_steps.proofs.GivenSets.{given_struck}
use Rattle.line_steps.proofs.QuietLines.{gone_from}
use Rattle.line_steps.proofs.Takes.{takes_struck}
use Rattle.line_steps.proofs.Leads.{leads_taken}
use Rattle.line_steps.specs.declared.reason.Reason.TheVariants.{Given}
use Rattle.line_steps.specs.declared.grade.Grade.TheVariants.{Latin}

-- a given that strikes nothing that is left strikes nothing that is left of fewer candidates
pub given_stays : (p : Puzzle) (at : ℕ) (a b : CandidatesValue) → b.size ≡ a.size → IsFewer a b → IsGivenQuiet p at a → IsGivenQuiet p at b
given_stays p at a b size fewer quiet = grind (arith, nat_tests, gone_from, both_ways)

-- givens that strike nothing that is left strike nothing that is left of fewer candidates
pub givens_stay : (p : Puzzle) (a b : CandidatesValue) → b.size ≡ a.size → IsFewer a b → AreGivensSettled p a → AreGivensSettled p b
givens_stay p a b size fewer quiet at = given_stays p at a b size fewer (quiet at)

-- a chain leads from a to b, where the given strikes nothing that is left
pub record IsGivenTaken (p : Puzzle) (Own : Striking) (at : ℕ) (a b : CandidatesValue) : Type 0 where
  pub leads : LeadsTo (AllStrikes p Own) Latin a b
  pub quiet : IsGivenQuiet p at b

-- striking all values but the given in its square takes away what the given strikes
pub given_taken : (p : Puzzle) (Own : Striking) → IsAntitone (AllStrikes p Own) → (at all one rest given : ℕ) (a b : CandidatesValue)
    → at < a.size * a.size → given ≡ p.given at → given ≢ 0 → ((k : ℕ) → has_number all k ≡ (nat_le 1 k && nat_le k a.size))
    → ((k : ℕ) → has_number one k ≡ (k == given)) → ((n : ℕ) → has_number rest n ≡ (has_number all n && not (has_number one n)))
    → Strikes a b at rest → IsGivenTaken p Own at a b
given_taken p Own less at all one rest given a b inside is some members single rest_is s =
    let tested : (v : ℕ) → (has_number rest v ≡ true) ↔ (IsPair a.size at v × IsByGiven p at at v) =
    λ v. given_struck p a.size at at all one rest given v refl inside is some members single rest_is in
    let Which : ℕ → ℕ → Type 0 = λ c v. (c ≡ at) × (has_number rest v ≡ true) in
    let taken : Takes Which a b = takes_struck a b at rest s in
    record {
      leads = leads_taken (AllStrikes p Own) less Latin Which a b taken
          (λ cell v pair h. (Given at, refl, subst (λ (n : ℕ). IsByGiven p at n v) (sym h.0) ((tested v).0 h.1).1));
      quiet = λ cell v pair h.
          let here : IsPair a.size cell v = subst (λ (n : ℕ). IsPair n cell v) s.size pair in
          let there : IsPair a.size at v = subst (λ (n : ℕ). IsPair a.size n v) h.here here in
          let again : IsByGiven p at at v = subst (λ (n : ℕ). IsByGiven p at n v) h.here h in
          taken.gone cell v here (h.here, (tested v).1 (there, again));
    }

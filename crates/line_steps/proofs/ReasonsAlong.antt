-- The reasons that look along a line, one after another.
use Rattle.std.proofs.lemmas.Bool.Decides.{nat_tests}
use Rattle.std.proofs.Common.{◌≡◌, ℕ, ◌+◌, ◌*◌, ◌<◌, ◌≤◌, ◌||◌, true, false, List, [], inl, inr, refl, sym, ap, ◌∙◌, subst, arith}
use Rattle.std.proofs.lemmas.Bool.{cases_eq, or_parts}
use Rattle.number_sets.specs.Sets.{has_number, IsEmpty}
use Rattle.trail_solver.specs.Pairs.{IsPair}
use Rattle.trail_solver.specs.Candidates.{CandidatesValue, may_be}
use Rattle.line_steps.specs.Takes.{Takes, AreChanged}
use Rattle.line_steps.specs.Views.{front_place, view_line}
use Rattle.line_steps.specs.Reasons.{Striking}
use Rattle.line_steps.specs.declared.reason.Reason.{Reason}
use Rattle.line_steps.specs.declared.reason.Reason.TheVariants.{Bound, Stand, Clue, Sign}
use Rattle.line_steps.specs.Grades.{has_reason}
use Rattle.line_steps.specs.Along.{IsOn, LooksAlong, IsQuietAlong}
use Rattle.line_steps.specs.Chains.{LeadsTo}
use Rattle.line_steps.specs.Inner.ReasonsAlong.{IsNthAlong, AreStruckOn, IsQuietBy}
use Rattle.line_steps.specs.declared.grade.Grade.{Grade}
use Rattle.line_steps.proofs.Chains.{IsAntitone}
use Rattle.line_steps.proofs.Leads.{leads_length, leads_on, leads_size, leads_taken}
use Rattle.line_steps.proofs.LineEnds.{ends}
use Rattle.line_steps.proofs.Takes.{IsInRow}
use Rattle.line_steps.proofs.StayingLines.{changed_both}
use Rattle.line_steps.proofs.TakenLines.{changed_none}

-- ---- the list

-- the reason is one of those along the line
abbrev IsListed : ℕ → ℕ → Reason → Type 0
IsListed w line reason = (n : ℕ) × (n < 2 * w + 4) × ((found : Reason) → IsNthAlong w line n found → found ≡ reason)

-- the list along a line has the clue at either end of it, in each of three ways to look at it
at_end : (w line n place : ℕ) (Kind : ℕ → Reason) → n < 3 → 0 < w → place < 4 * w → view_line w place ≡ line
    → ((found : Reason) → IsNthAlong w line n found → found ≡ Kind (front_place w line))
    → ((found : Reason) → IsNthAlong w line (n + 3) found → found ≡ Kind (front_place w line + w)) → IsListed w line (Kind place)
at_end w line n place Kind low some inside on front back = elim (ends w place line inside on) [
  | inl first ↦ (n, omega (arith, low, some), λ found is. front found is ∙ ap Kind (sym first))
  | inr second ↦ (n + 3, omega (arith, low, some), λ found is. back found is ∙ ap Kind (sym second))
]

-- a grid with a square on some line is not of width 0
on_some : (w line cell : ℕ) → IsOn w line cell → 0 < w
on_some w line cell (k, low, here) = omega (arith, low)

-- each reason that looks along the line is in the list
listed : (w line : ℕ) (reason : Reason) (cell : ℕ) → LooksAlong w line reason cell → IsListed w line reason
listed w line (Bound place) cell (low, on, at) =
    at_end w line 0 place (λ p. Bound p) (omega arith) (on_some w line cell at) low on (λ found is. is.bound refl) (λ found is. is.bound_back refl)
listed w line (Stand place) cell (low, on, at) =
    at_end w line 1 place (λ p. Stand p) (omega arith) (on_some w line cell at) low on (λ found is. is.stand refl) (λ found is. is.stand_back refl)
listed w line (Clue place) cell (low, on, at) =
    at_end w line 2 place (λ p. Clue p) (omega arith) (on_some w line cell at) low on (λ found is. is.clue refl) (λ found is. is.clue_back refl)
listed w line (Sign from to) cell (same, inl (k, low, first, second)) =
    (2 * k + 6, omega (arith, low), λ found is. is.on k refl ∙ (λ i. Sign (first i) (second i)))
listed w line (Sign from to) cell (same, inr (k, low, first, second)) =
    (2 * k + 7, omega (arith, low), λ found is. is.back k refl ∙ (λ i. Sign (second i) (first i)))
listed w line reason cell along = absurd along

-- a reason that looks along the line strikes in one of its squares
looked_on : (w line : ℕ) (reason : Reason) (cell : ℕ) → LooksAlong w line reason cell → IsOn w line cell
looked_on w line (Bound place) cell (low, on, at) = grind (arith, nat_tests)
looked_on w line (Stand place) cell (low, on, at) = grind (arith, nat_tests)
looked_on w line (Clue place) cell (low, on, at) = grind (arith, nat_tests)
looked_on w line (Sign from to) cell (same, inl (k, low, first, second)) = grind (arith, nat_tests)
looked_on w line (Sign from to) cell (same, inr (k, low, first, second)) = grind (arith, nat_tests)
looked_on w line reason cell along = grind (arith, nat_tests)

-- ---- one reason

-- taking away what a reason strikes along a line is a chain of that reason
pub reason_leads : (Struck : Striking) → IsAntitone Struck → (grade : Grade) (reason : Reason) (line : ℕ) (row : List ℕ) (a b : CandidatesValue)
    → has_reason grade reason ≡ true → AreStruckOn a.size (Struck a reason) line a.size row → Takes (IsInRow a.size line row) a b
    → LeadsTo Struck grade a b
reason_leads Struck less grade reason line row a b has on taken =
    leads_taken Struck less grade (IsInRow a.size line row) a b taken
    (λ cell v pair h. let (k, low, here, one) = h in (reason, has, subst (λ (n : ℕ). Struck a reason n v) (sym here) ((on.each k v low).0 one).1))

-- if nothing goes when a reason takes away its row, it strikes nothing that is left along the line
pub reason_quiet : (Struck : Striking) (reason : Reason) (line : ℕ) (row : List ℕ) (a b : CandidatesValue) → b ≡ a
    → AreStruckOn a.size (Struck a reason) line a.size row → Takes (IsInRow a.size line row) a b → IsQuietBy Struck reason line a
reason_quiet Struck reason line row a b same on taken = grind (arith, nat_tests)

-- ---- one after another

-- the first n reasons were gone through: what they struck is gone, and where it was nothing, they strike nothing
pub record GoesOn (Struck : Striking) (grade : Grade) (line n changed : ℕ) (first now : CandidatesValue) : Type 0 where
  pub leads : LeadsTo Struck grade first now
  pub went : AreChanged line changed first now
  pub quiet : IsEmpty changed → (m : ℕ) → m < n → (reason : Reason) × IsNthAlong first.size line m reason
      × (has_reason grade reason ≡ true → IsQuietBy Struck reason line first)

-- at first no reason was gone through, and nothing went
pub begins : (Struck : Striking) (grade : Grade) (line changed : ℕ) (first : CandidatesValue) → IsEmpty changed
    → GoesOn Struck grade line 0 changed first first
begins Struck grade line changed first none = record {
  leads = record { steps = []; chain = tt; allowed = tt; is = refl };
  went = changed_none line changed first none;
  quiet = λ _ m below. absurd (omega (arith, below));
}

-- once the next reason has taken away what it strikes, one reason more was gone through
pub goes_on : (Struck : Striking) (grade : Grade) (line n changed more both : ℕ) (found : Reason) (first now next : CandidatesValue)
    → ((k : ℕ) → has_number both k ≡ (has_number changed k || has_number more k))
    → IsNthAlong first.size line n found → LeadsTo Struck grade now next → AreChanged line more now next
    → (IsEmpty more → has_reason grade found ≡ true → IsQuietBy Struck found line now)
    → GoesOn Struck grade line n changed first now → GoesOn Struck grade line (n + 1) both first next
goes_on Struck grade line n changed more both found first now next is nth leads lost quiet h =
    let none_before : IsEmpty both → IsEmpty changed = λ none k. (or_parts (has_number changed k) (has_number more k) (sym (is k) ∙ none k)).0 in
    let none_here : IsEmpty both → IsEmpty more = λ none k. (or_parts (has_number changed k) (has_number more k) (sym (is k) ∙ none k)).1 in
    record {
      leads = leads_on Struck grade first now next h.leads leads;
      went = changed_both line changed more both first now next (leads_size _ _ _ _ h.leads) (leads_length _ _ _ _ h.leads) (leads_length _ _ _ _ leads) is
          h.went lost;
      quiet = λ none m below. elim (cases_eq m n) [
        | inl last ↦ (
          found,
          subst (λ (i : ℕ). IsNthAlong first.size line i found) (sym last) nth,
          λ has. subst (λ (c : CandidatesValue). IsQuietBy Struck found line c) (h.went.same (none_before none)) (quiet (none_here none) has),
        )
        | inr other ↦ h.quiet (none_before none) m (omega (arith, below, other))
      ];
    }

-- if all reasons along the line were gone through and nothing went, none of them strikes anything more
pub goes_through : (Struck : Striking) (grade : Grade) (line n changed : ℕ) (first now : CandidatesValue) → 2 * first.size + 4 ≤ n
    → GoesOn Struck grade line n changed first now → IsEmpty changed → IsQuietAlong Struck grade line now
goes_through Struck grade line n changed first now all h none =
    subst (λ (c : CandidatesValue). IsQuietAlong Struck grade line c) (sym (h.went.same none))
    (λ reason cell value has along pair struck.
    let (m, below, is) = listed first.size line reason cell along in
    let (k, low, here) = looked_on first.size line reason cell along in
    let (found, nth, calm) = h.quiet none m (omega (arith, below, all)) in
    let quiet = subst (λ (r : Reason). has_reason grade r ≡ true → IsQuietBy Struck r line first) (is found nth) calm has in
    subst (λ (at : ℕ). may_be first at value ≡ false) (sym here)
    (quiet k value low (subst (λ (at : ℕ). IsPair first.size at value) here pair) (subst (λ (at : ℕ). Struck first reason at value) here struck)))

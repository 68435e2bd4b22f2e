-- Reasons that strike nothing more, one by one, and a step that strikes something.
use Rattle.std.proofs.Common.{◌≡◌, ◌↔◌, ℕ, ◌+◌, ◌^◌, ◌<◌, ◌≤◌, true, false, ◌&&◌, ◌||◌, sym, ap, ◌∙◌, subst, arith, inl, inr}
use Rattle.std.proofs.lemmas.Bool.{both_ways, and_parts, or_left, or_right, cases_eq, cases_lt, cases_Bool, eqb-true, false_from_ne_true}
use Rattle.number_sets.specs.Sets.{has_number}
use Rattle.number_sets.proofs.Members.{same_set, has_number-above}
use Rattle.latin_board.specs.Lines.{line_cell}
use Rattle.trail_solver.specs.Pairs.{IsPair}
use Rattle.trail_solver.specs.Candidates.{CandidatesValue, IsSetOf, may_be}
use Rattle.trail_solver.proofs.Removals.{set_below}
use Rattle.trail_solver.proofs.SetPairs.{has_pair-pairs_of}
use Rattle.line_steps.specs.Left.{IsLeft}
use Rattle.line_steps.specs.Grades.{has_reason}
use Rattle.line_steps.specs.Inner.Groups.{IsUnion}
use Rattle.line_steps.specs.declared.reason.Reason.{Reason}
use Rattle.line_steps.specs.declared.grade.Grade.{Grade}
use Rattle.step_chains.specs.declared.chain.Step.{Step}
use Rattle.step_chains.specs.Inner.Quiet.{IsNew}
use Rattle.line_steps.specs.Reasons.{Striking}

-- a property of all numbers below k, and of k, is one of all below k + 1
pub all_next : (P : ℕ → Type 0) (k : ℕ) → ((j : ℕ) → j < k → P j) → P k → (j : ℕ) → j < k + 1 → P j
all_next P k before here j low = grind (arith, cases_eq)

-- the values are those that are left of a square and that a reason strikes there
pub record IsStruckSet (Struck : Striking) (c : CandidatesValue) (reason : Reason) (cell values : ℕ) : Type 0 where
  pub struck : ℕ
  pub left : ℕ
  pub is_struck : (v : ℕ) → (has_number struck v ≡ true) ↔ (IsPair c.size cell v × Struck c reason cell v)
  pub is_left : IsSetOf c cell left
  pub both : (v : ℕ) → has_number values v ≡ (has_number struck v && has_number left v)

-- if any values of a square are left and struck by a reason of the grade, they are a new step
pub new_step : (Struck : Striking) (grade : Grade) (c : CandidatesValue) (reason : Reason) (cell values : ℕ) (s : Step)
    → c.size ≤ 9 → has_reason grade reason ≡ true → IsStruckSet Struck c reason cell values → ((v : ℕ) × (has_number values v ≡ true))
    → s ≡ record { reason = reason; cell = cell; values = values } → IsNew Struck grade c s
new_step Struck grade c reason cell values s small has h some is =
    let members : (v : ℕ) → has_number values v ≡ true → (IsPair c.size cell v × Struck c reason cell v) × (may_be c cell v ≡ true) = grind (arith, and_parts) in
    let low = set_below c.size cell values small (λ v in_it. (members v in_it).0.0) in
    subst (λ x. IsNew Struck grade c x) (sym is) (grind (arith, and_parts, has_pair-pairs_of, eqb-true))

-- the set has just the values that are left of some squares of a line
abbrev pub IsLeftOf : CandidatesValue → ℕ → ℕ → ℕ → Type 0
IsLeftOf c line squares values = (v : ℕ) → (has_number values v ≡ true)
    ↔ ((k : ℕ) × (k < c.size) × ((has_number squares k ≡ true) × IsLeft c (line_cell c.size line k) v))

-- a group's union is the set of the values that are left of its squares, if these are places of the line
pub union_same : (c : CandidatesValue) (line squares values union : ℕ) → ((k : ℕ) → has_number squares k ≡ true → k < c.size) → IsLeftOf c line squares values
    → IsUnion c.size c line squares union → union ≡ values
union_same c line squares values union inside is u = same_set union values (λ v. grind (arith, cases_Bool, false_from_ne_true, both_ways))

-- the squares of a group are places of the line
pub group_inside : (w squares : ℕ) → squares < 2 ^ w → (k : ℕ) → has_number squares k ≡ true → k < w
group_inside w squares below k has = grind (arith, cases_lt, both_ways, has_number-above)

-- with one square more of a group, the values that are left of it are added to those found
pub left_added : (c : CandidatesValue) (line squares k found set result : ℕ)
    → ((v : ℕ) → (has_number found v ≡ true) ↔ ((j : ℕ) × (j < k) × ((has_number squares j ≡ true) × IsLeft c (line_cell c.size line j) v)))
    → has_number squares k ≡ true → IsSetOf c (line_cell c.size line k) set → ((v : ℕ) → has_number result v ≡ (has_number found v || has_number set v))
    → (v : ℕ) → (has_number result v ≡ true) ↔ ((j : ℕ) × (j < k + 1) × ((has_number squares j ≡ true) × IsLeft c (line_cell c.size line j) v))
left_added c line squares k found set result before in_it here either = λ v. (
  λ has. elim (cases_Bool (has_number found v)) [
    | inl old ↦ let h = (before v).0 old in (h.0, omega (arith, h.1), h.2)
    | inr lacks ↦
        let new : has_number set v ≡ true = elim (cases_Bool (has_number set v)) [
          | inl in_set ↦ in_set
          | inr absent ↦ absurd (both_ways (has_number result v) (either v ∙ ap (λ b. b || has_number set v) lacks ∙ absent) has)
        ] in
        let h = (here v).0 new in
        (k, omega arith, (in_it, record { pair = h.0; may = h.1 }))
  ],
  λ h. elim (cases_eq h.0 k) [
    | inl same ↦
        let left : IsLeft c (line_cell c.size line k) v = subst (λ (j : ℕ). IsLeft c (line_cell c.size line j) v) same h.2.1 in
        either v ∙ or_right (has_number found v) (has_number set v) ((here v).1 (left.pair, left.may))
    | inr other ↦ either v ∙ or_left (has_number found v) (has_number set v) ((before v).1 (h.0, omega (arith, h.1, other), h.2))
  ],
)

-- a square that isn't of the group adds none
pub left_skipped : (c : CandidatesValue) (line squares k found : ℕ)
    → ((v : ℕ) → (has_number found v ≡ true) ↔ ((j : ℕ) × (j < k) × ((has_number squares j ≡ true) × IsLeft c (line_cell c.size line j) v)))
    → has_number squares k ≡ false
    → (v : ℕ) → (has_number found v ≡ true) ↔ ((j : ℕ) × (j < k + 1) × ((has_number squares j ≡ true) × IsLeft c (line_cell c.size line j) v))
left_skipped c line squares k found before out = λ v. (
  λ has. let h = (before v).0 has in (h.0, omega (arith, h.1), h.2),
  λ h. elim (cases_eq h.0 k) [
    | inl same ↦ absurd (both_ways (has_number squares h.0) (subst (λ (j : ℕ). has_number squares j ≡ false) (sym same) out) h.2.0)
    | inr other ↦ (before v).1 (h.0, omega (arith, h.1, other), h.2)
  ],
)

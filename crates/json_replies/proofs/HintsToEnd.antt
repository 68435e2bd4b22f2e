-- Hints lead to the end of a puzzle that follows by a grade.
use Rattle.std.proofs.Common.{◌≡◌, ◌≢◌, ℕ, zero, suc, ◌+◌, ◌*◌, ◌<◌, ◌≤◌, ◌==◌, Bool, cond, List, [], ◌∷◌, length, get_or, set, count_by, sym, ap, ◌∙◌, subst, arith, inl, inr}
use Rattle.std.specs.List.{AllByRecursion}
use Rattle.std.proofs.lemmas.Bool.{cases_eq}
use Rattle.std.proofs.lemmas.List.{get_or-set_same, get_or-set_other, length-set}
use Rattle.std.proofs.lemmas.List.Sums.{sum_by-cons, sum_by-set}
use Rattle.std.proofs.lemmas.List.Elements.{All-set}
use Rattle.std.proofs.lemmas.Grind.{same_number_lists}
use borrow.Author.Tests.{apart_eqb, eq-eqb}
use Rattle.latin_board.specs.Squares.{GridValue, IsGrid, number_at}
use Rattle.latin_board.proofs.LatinLines.{line_cell_inside}
use Rattle.trail_solver.specs.Puzzles.{Puzzle, Solves}
use Rattle.trail_solver.specs.Completions.{Keeps}
use Rattle.named_steps.specs.Chains.{IsGoalOf, goal_cell, goal_value}
use Rattle.named_steps.specs.declared.goal.Goal.{Goal}
use Rattle.named_steps.specs.declared.goal.Goal.TheVariants.{OnlyValue, OnlyPlace}
use Rattle.line_steps.specs.declared.grade.Grade.{Grade}
use Rattle.line_steps.specs.Reasons.{Striking}
use Rattle.step_chains.specs.declared.hints.NextHint.{NextHint}
use Rattle.step_chains.specs.declared.hints.NextHint.TheVariants.{Follows as Found, Refuted, Nothing}
use Rattle.step_chains.specs.NextHints.{IsHint}
use Rattle.line_replies.specs.GameFacts.{GameFacts}
use Rattle.json_replies.specs.FairLaws.{IsExplainedBy, IsWrongAt, HintsLeadOn, HintsLeadToTheEnd, AreHintsInTurn, empty_count, with_hinted}
use Rattle.json_replies.specs.FurtherLines.{BoardFacts}

-- ---- blanks

-- the count of zeros is one more with a 0 more in front, and stays with another number
count_more : (x : ℕ) (xs : List ℕ) → count_by (λ n. n == 0) (x ∷ xs) ≡ cond (x == 0) 1 0 + count_by (λ n. n == 0) xs
count_more x xs = sum_by-cons (λ n. cond (n == 0) 1 0) x xs

count_blank : (x : ℕ) (xs : List ℕ) → x ≡ 0 → count_by (λ n. n == 0) (x ∷ xs) ≡ 1 + count_by (λ n. n == 0) xs
count_blank x xs is = count_more x xs ∙ ap (λ t. cond t 1 0 + count_by (λ n. n == 0) xs) (eq-eqb x 0 is)

count_other : (x : ℕ) (xs : List ℕ) → x ≢ 0 → count_by (λ n. n == 0) (x ∷ xs) ≡ 0 + count_by (λ n. n == 0) xs
count_other x xs some = count_more x xs ∙ ap (λ t. cond t 1 0 + count_by (λ n. n == 0) xs) (apart_eqb x 0 some)

-- if a list has zeros, there is a place with 0
pub blank_at : (xs : List ℕ) → 0 < count_by (λ n. n == 0) xs → (i : ℕ) × (i < length xs) × (get_or xs i 0 ≡ 0)
blank_at [] some = absurd (omega arith)
blank_at (x ∷ xs) some = elim (cases_eq x 0) [
  | inl is ↦ (0, omega arith, is)
  | inr other ↦
      let same = count_other x xs other in
      let (i, inside, is) = blank_at xs (omega (arith, some, same)) in
      (suc i, omega (arith, inside), is)
]

-- a list in which no zero is counted has no 0 at any place
no_blank : (xs : List ℕ) (i : ℕ) → 0 ≡ count_by (λ n. n == 0) xs → i < length xs → get_or xs i 0 ≢ 0
no_blank [] i none inside = absurd (omega arith)
no_blank (x ∷ xs) zero none inside = λ is. let more = count_blank x xs is in absurd (omega (arith, none, more))
no_blank (x ∷ xs) (suc i) none inside =
    let rest : 0 ≡ count_by (λ n. n == 0) xs = elim (cases_eq x 0) [
      | inl is ↦ let more = count_blank x xs is in absurd (omega (arith, none, more))
      | inr other ↦ let same = count_other x xs other in omega (arith, none, same)
    ] in
    no_blank xs i rest (omega (arith, inside))

-- 1 if the test is true, and otherwise 0
abbrev one_if : Bool → ℕ
one_if t = cond t 1 0

-- with a number put in place of a 0 there is one 0 fewer
one_less : (xs : List ℕ) (i n : ℕ) → i < length xs → get_or xs i 0 ≡ 0 → 1 ≤ n
    → count_by (λ k. k == 0) (set xs i n) + 1 ≡ count_by (λ k. k == 0) xs
one_less xs i n inside is some =
    let kept : count_by (λ k. k == 0) (set xs i n) + one_if (get_or xs i 0 == 0) ≡ count_by (λ k. k == 0) xs + one_if (n == 0) =
    sum_by-set (λ k. one_if (k == 0)) xs i n 0 inside in
    let was : one_if (get_or xs i 0 == 0) ≡ 1 = ap one_if (eq-eqb (get_or xs i 0) 0 is) in
    let now : one_if (n == 0) ≡ 0 = ap one_if (apart_eqb n 0 (λ e. absurd (omega (arith, e)))) in
    omega (arith, kept, was, now)

-- ---- one hint

-- the square of a goal is one of the grid
pub goal_inside : (w : ℕ) (goal : Goal) → IsGoalOf w goal → goal_cell w goal < w * w
goal_inside w (OnlyValue cell value) of = of.inside
goal_inside w (OnlyPlace line index value) of = line_cell_inside w line index of.0 of.1

-- the number of a goal goes from 1 to the width
pub goal_low : (w : ℕ) (goal : Goal) → IsGoalOf w goal → (1 ≤ goal_value goal) × (goal_value goal ≤ w)
goal_low w (OnlyValue cell value) of = (of.low, of.high)
goal_low w (OnlyPlace line index value) of = (of.2, of.3)

module _ (p : Puzzle) (Struck : Striking) (grade : Grade) (s : GridValue) (solves : Solves p s)
    (lead : (g : GridValue) (cell : ℕ) (hint : NextHint) → g.size ≡ s.size → cell < g.size * g.size → number_at g cell ≡ 0
    → IsHint p Struck g hint → ((wrong : ℕ) → IsWrongAt g s wrong → ⊥) → IsExplainedBy grade hint) where
  -- the solution keeps the numbers of a grid without a wrong square
  keeps : (g : GridValue) → ((wrong : ℕ) → IsWrongAt g s wrong → ⊥) → Keeps g s
  keeps g right at within some =
      let apart : number_at g at ≢ 0 = λ none. absurd (omega (arith, some, none)) in
      elim (cases_eq (number_at s at) (number_at g at)) [ inl same ↦ same | inr other ↦ absurd (right at (within, apart, λ e. other (sym e))) ]

  -- the next grid has no wrong square either, and one blank fewer
  pub record IsNext (g next : GridValue) : Type 0 where
    pub grid : IsGrid next
    pub size : next.size ≡ s.size
    pub right : (wrong : ℕ) → IsWrongAt next s wrong → ⊥
    pub fewer : empty_count next + 1 ≡ empty_count g

  -- a blank square in which the solution's number is put makes a next grid
  pub filled : (g : GridValue) (cell value : ℕ) → IsGrid g → g.size ≡ s.size → ((wrong : ℕ) → IsWrongAt g s wrong → ⊥) → cell < g.size * g.size
      → number_at g cell ≡ 0 → 1 ≤ value → value ≤ g.size → number_at s cell ≡ value
      → IsNext g (record { size = g.size; numbers = set g.numbers cell value })
  filled g cell value grid size right inside blank low high is =
      let count = grid.count in
      let here : cell < length g.numbers = omega (arith, count, inside) in
      record {
        grid = record {
          smallest = grid.smallest;
          largest = grid.largest;
          count = length-set g.numbers cell value ∙ count;
          within = All-set (λ n. n ≤ g.size) g.numbers cell value high grid.within;
        };
        size = size;
        right = λ at (within, some, other). elim (cases_eq at cell) [
          | inl same ↦ other (subst (λ (k : ℕ). get_or (set g.numbers cell value) k 0 ≡ number_at s k) (sym same)
              (get_or-set_same g.numbers cell value 0 here ∙ sym is))
          | inr apart ↦
              let kept = get_or-set_other g.numbers cell at value 0 apart in
              right at (within, (λ none. some (kept ∙ none)), λ e. other (kept ∙ e))
        ];
        fewer = one_less g.numbers cell value here blank low;
      }

  -- a hint, with its number put in its square, makes a next grid
  hint_next : (g : GridValue) (hint : NextHint) → IsGrid g → g.size ≡ s.size → ((wrong : ℕ) → IsWrongAt g s wrong → ⊥)
      → IsHint p Struck g hint → IsExplainedBy grade hint → IsNext g (with_hinted g hint)
  hint_next g (Found own chain) grid size right is explained =
      let of = is.is_hint.least.0.goal_of in
      filled g (goal_cell g.size chain.goal) (goal_value chain.goal) grid size right (goal_inside g.size chain.goal of)
      is.is_hint.least.0.empty (goal_low g.size chain.goal of).0 (goal_low g.size chain.goal of).1
      (is.right s (solves, keeps g right))
  hint_next g (Refuted own refutation) grid size right is explained = absurd explained
  hint_next g Nothing grid size right is explained = absurd explained

  -- a grid without a blank or a wrong square is the solution
  pub full_same : (g : GridValue) → IsGrid g → g.size ≡ s.size → ((wrong : ℕ) → IsWrongAt g s wrong → ⊥) → 0 ≡ empty_count g → g ≡ s
  full_same g grid size right none =
      let count = grid.count in
      let all = solves.is_grid.count in
      let long : length g.numbers ≡ length s.numbers = count ∙ ap (λ w. w * w) size ∙ sym all in
      let same : g.numbers ≡ s.numbers = same_number_lists g.numbers s.numbers long (λ k inside.
      let some = no_blank g.numbers k none inside in
      elim (cases_eq (number_at g k) (number_at s k)) [
        | inl is ↦ is
        | inr other ↦ absurd (right k (omega (arith, count, inside), some, other))
      ]) in
      λ i. record { size = size i; numbers = same i }

  -- hints in turn are explained by steps, and as many as there are blanks lead to the solution
  to_the_end : (g last : GridValue) (hints : List NextHint) → IsGrid g → g.size ≡ s.size → ((wrong : ℕ) → IsWrongAt g s wrong → ⊥)
      → AreHintsInTurn p Struck g hints last → length hints ≤ empty_count g
      → AllByRecursion (IsExplainedBy grade) hints × (length hints ≡ empty_count g → last ≡ s)
  to_the_end g last [] grid size right is few = (tt, λ none. is ∙ full_same g grid size right none)
  to_the_end g last (hint ∷ hints) grid size right is few =
      let count = grid.count in
      let (cell, inside, blank) = blank_at g.numbers (omega (arith, few)) in
      let explained = lead g cell hint size (omega (arith, count, inside)) blank is.0 right in
      let next = hint_next g hint grid size right is.0 explained in
      let fewer = next.fewer in
      let rest = to_the_end (with_hinted g hint) last hints next.grid next.size next.right is.1 (omega (arith, few, fewer)) in
      ((explained, rest.0), λ all. rest.1 (omega (arith, all, fewer)))

pub hints_lead_to_the_end : {P : Type 0} (f : GameFacts P) (b : BoardFacts P) → HintsLeadOn f b → HintsLeadToTheEnd f b
hints_lead_to_the_end f b lead p grade s g last hints solves follows grid size right is few =
    to_the_end (f.rules.puzzle p) (b.struck_by p) grade s solves
    (λ board cell hint same inside empty hinted none. (lead p grade s board cell hint solves follows same inside empty hinted).0 none)
    g last hints grid size right is few

-- The full puzzle of a Latin square follows by its givens.
use Rattle.std.proofs.lemmas.Bool.Decides.{nat_tests}
use Rattle.std.proofs.Common.{◌≡◌, ◌≢◌, ℕ, zero, suc, ◌*◌, ◌^◌, ◌<◌, ◌≤◌, true, false, not, ◌&&◌, ◌||◌, List, [], ◌++◌, inl, inr, refl, sym, ◌∙◌, ap, subst, arith, eqb, leb, ltb}
use Rattle.std.proofs.Math.Bool.{and-false, or-false}
use Rattle.std.proofs.lemmas.Bool.{both_ways, and_parts, and_from, eq-eqb, cases_eq, cases_lt, ne_eqb, lt-ltb, le-ltb, ltb-true, le-leb, leb-true, lt-leb}
use Rattle.std.proofs.lemmas.List.Folds.{list_any-append}
use Rattle.number_sets.specs.Sets.{has_number, numbers_to, flip_number}
use Rattle.number_sets.proofs.Members.{has_number-numbers_to, has_number-taken, below_from_numbers}
use Rattle.latin_board.specs.Squares.{GridValue, IsGrid, IsLatin, number_at}
use Rattle.latin_board.proofs.LatinLines.{latin_full}
use Rattle.latin_board.proofs.Numbers.{number_within}
use Rattle.trail_solver.specs.Candidates.{CandidatesValue, may_be}
use Rattle.trail_solver.specs.Pairs.{has_pair, pairs_of}
use Rattle.trail_solver.proofs.SetPairs.{has_pair-pairs_of}
use Rattle.trail_solver.specs.declared.rules.Rules.{Ghosts}
use Rattle.needed_items.proofs.ItemLaws.{ItemLaws}
use Rattle.line_steps.specs.Reasons.{IsByGiven, Striking}
use Rattle.line_steps.specs.Left.{IsLeft, all_of, without}
use Rattle.named_steps.specs.Following.{Follows}
use Rattle.line_steps.specs.Takes.{Takes}
use Rattle.line_steps.proofs.Chains.{IsAntitone, higher_has}
use Rattle.line_steps.specs.declared.grade.Grade.TheVariants.{Latin}
use Rattle.line_steps.proofs.Leads.{leads_taken}
use Rattle.line_steps.specs.declared.reason.Reason.TheVariants.{Given}
use Rattle.line_steps.specs.declared.grade.Grade.{Grade}

-- the numbers to w but for one, as a set
abbrev others : ℕ → ℕ → ℕ
others w number = flip_number (numbers_to w) number

others_has : (w number v : ℕ) → 1 ≤ number → number ≤ w
    → has_number (others w number) v ≡ ((leb 1 v && leb v w) && not (eqb v number))
others_has w number v low high = grind (arith, nat_tests, has_number-taken, has_number-numbers_to)

others_small : (w number : ℕ) → w ≤ 9 → 1 ≤ number → number ≤ w → others w number < 2 ^ 16
others_small w number small low high =
    below_from_numbers (others w number) 16 (λ j above.
    others_has w number j low high ∙ rw (lt-leb j w (omega (arith, small, above)), and-false) refl)

-- the pairs of all squares before one, each with all numbers but its own
abbrev others_before : GridValue → ℕ → List (ℕ × ℕ)
others_before g zero = []
others_before g (suc n) = others_before g n ++ pairs_of n (others g.size (number_at g n))

before_has : (g : GridValue) (n x y : ℕ) → IsGrid g → IsLatin g → n ≤ g.size * g.size
    → has_pair (others_before g n) x y ≡ (ltb x n && has_number (others g.size (number_at g x)) y)
before_has g zero x y grid latin within =
    ap (λ b. b && has_number (others g.size (number_at g x)) y) (sym (le-ltb x 0 (omega arith)))
before_has g (suc n) x y grid latin within =
    let set = others g.size (number_at g n) in
    let own = has_number (others g.size (number_at g x)) y in
    let inside : n < g.size * g.size = omega arith in
    let small = others_small g.size (number_at g n) grid.largest ((latin_full g latin).each n inside) (number_within g grid n inside) in
    list_any-append _ (others_before g n) (pairs_of n set)
    ∙ ap (λ b. b || has_pair (pairs_of n set) x y) (before_has g n x y grid latin (omega arith))
    ∙ ap (λ b. (ltb x n && own) || b) (has_pair-pairs_of n set x y small)
    ∙ elim (cases_eq x n) [
      | inl here ↦
          let none : ltb x n ≡ false = le-ltb x n (omega (arith, here)) in
          let this : eqb x n ≡ true = eq-eqb x n here in
          let more : ltb x (suc n) ≡ true = lt-ltb x (suc n) (omega (arith, here)) in
          rw (none, this, more) (ap (λ k. has_number (others g.size (number_at g k)) y) (sym here))
      | inr apart ↦
          ap (λ b. (ltb x n && own) || (b && has_number set y)) (ne_eqb x n apart)
          ∙ or-false (ltb x n && own) ∙ ap (λ b. b && own) (next x n apart)
    ]
  where
    next : (x n : ℕ) → x ≢ n → ltb x n ≡ ltb x (suc n)
    next x n apart = elim (cases_lt x n) [
      | inl below ↦ lt-ltb x n below ∙ sym (lt-ltb x (suc n) (omega (arith, below)))
      | inr above ↦ le-ltb x n above ∙ sym (le-ltb x (suc n) (omega (arith, above, apart)))
    ]

-- the full puzzle follows by each grade, since each of its squares is given
pub full_follows : {P : Type 0} (f : Ghosts P) (Struck : P → Striking) → ItemLaws f → (grade : Grade) (g : GridValue)
    → IsAntitone (Struck (f.full_of g))
    → ((c : CandidatesValue) (at cell value : ℕ) → IsByGiven (f.puzzle (f.full_of g)) at cell value → Struck (f.full_of g) c (Given at) cell value)
    → IsGrid g → IsLatin g → Follows (Struck (f.full_of g)) grade g
full_follows f Struck laws grade g less given grid latin =
    let pairs = others_before g (g.size * g.size) in
    let all = all_of g.size in
    let Which : ℕ → ℕ → Type 0 = λ cell v. v ≢ number_at g cell in
    let low = (latin_full g latin).each in
    let high = number_within g grid in
    let taken : Takes Which all (without all pairs) = record {
      pairs = pairs;
      size = refl;
      trail = refl;
      each = λ cell v has.
          let both = and_parts _ _ (sym (before_has g (g.size * g.size) cell v grid latin (omega arith)) ∙ has) in
          let inside = ltb-true cell (g.size * g.size) both.0 in
          let is = and_parts _ _ (sym (others_has g.size (number_at g cell) v (low cell inside) (high cell inside)) ∙ both.1) in
          let range = and_parts (leb 1 v) (leb v g.size) is.0 in (
            record { inside = inside; low = leb-true 1 v range.0; high = leb-true v g.size range.1 },
            λ same. both_ways (not (eqb v (number_at g cell))) (ap not (eq-eqb v (number_at g cell) same)) is.1,
          );
      gone = λ cell v pair apart.
          ap not (before_has g (g.size * g.size) cell v grid latin (omega arith)
          ∙ and_from _ _ (lt-ltb cell (g.size * g.size) pair.inside)
          (others_has g.size (number_at g cell) v (low cell pair.inside) (high cell pair.inside)
          ∙ and_from _ _ (and_from _ _ (le-leb 1 v pair.low) (le-leb v g.size pair.high)) (ap not (ne_eqb v (number_at g cell) apart))));
    } in
    let leads = leads_taken (Struck (f.full_of g)) less grade Which all (without all pairs) taken (λ cell v pair apart.
    let is = laws.full_given g cell grid latin pair.inside in
    let here : IsByGiven (f.puzzle (f.full_of g)) cell cell v = record {
      here = refl;
      given = omega (arith, is, (latin_full g latin).each cell pair.inside);
      apart = λ e. apart (e ∙ is);
    } in
    (Given cell, higher_has Latin grade (omega arith) (Given cell) refl, given all cell cell v here)) in
    record {
      steps = leads.steps;
      chain = leads.chain;
      allowed = leads.allowed;
      alone = λ cell inside other left.
          let now : IsLeft (without all pairs) cell other = subst (λ (d : CandidatesValue). IsLeft d cell other) (sym leads.is) left in
          elim (cases_eq other (number_at g cell)) [
            | inl is ↦ is
            | inr apart ↦ absurd (both_ways (may_be (without all pairs) cell other) (taken.gone cell other (record {
              inside = inside;
              low = now.pair.low;
              high = now.pair.high;
            }) apart) now.may)
          ];
    }

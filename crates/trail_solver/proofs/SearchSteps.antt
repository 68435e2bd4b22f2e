-- The steps of a search: what each does to the solutions that are to join.
use Rattle.std.proofs.Common.{arith}
use Rattle.std.proofs.lemmas.Bool.Decides.{nat_tests}
use Rattle.std.proofs.Common.{◌≡◌, ◌≢◌, ℕ, ◌*◌, ◌<◌, ◌≤◌, length, refl, sym, ap, ◌∙◌, subst, inl, inr, ⊎_elim}
use Rattle.std.proofs.lemmas.Bool.{both_ways, cases_eq}
use Rattle.latin_board.specs.Squares.{GridValue, number_at}
use Rattle.trail_solver.specs.Candidates.{CandidatesValue, IsWithin, may_be}
use Rattle.trail_solver.specs.Inner.Squares.{HasNoCandidate, IsFilled}
use Rattle.trail_solver.specs.Puzzles.{Puzzle, Solves}
use Rattle.trail_solver.specs.Inner.Among.{IsAmong, IsAmongAt}
use Rattle.trail_solver.specs.Inner.Searches.{SearchValue, IsFurther, AreSame}
use Rattle.trail_solver.specs.declared.answer.Answer.{Answer}
use Rattle.trail_solver.specs.Inner.Added.{Adds}
use Rattle.trail_solver.proofs.AmongCandidates.{among_earlier, none_where_filled}
use Rattle.trail_solver.proofs.Earlier.{earlier_trans, prefix_length}
use Rattle.trail_solver.proofs.FilledGrids.{solution_pair, only_filled, filled_within}
use Rattle.trail_solver.proofs.JoinedAnswers.{adds_same, adds_nothing, adds_then}
use Rattle.trail_solver.proofs.OneKept.{Removes, removed_earlier, rest_removed}

-- a search that is further than a further one is further than the first
pub further_trans : {P : Type 0} (a b c : SearchValue P) → IsFurther a b → IsFurther b c → IsFurther a c
further_trans a b c f h = record { rules = h.rules ∙ f.rules; less = earlier_trans a.candidates b.candidates c.candidates f.less h.less }

-- with its candidates given back, a search is as it was
pub given_back : {P : Type 0} (old last : SearchValue P) (back : CandidatesValue) → IsFurther old last → back ≡ old.candidates
    → record { rules = last.rules; candidates = back } ≡ old
given_back old last back f e = grind (arith, nat_tests)

-- ---- where all squares are settled

-- where all squares are settled, the grid of the candidates joins if it is a solution
pub leaf_adds : (p : Puzzle) (c : CandidatesValue) (g : GridValue) (found answer : Answer) → c.size ≡ p.size → IsFilled c g → Solves p g
    → Adds (λ h. h ≡ g) found answer → Adds (IsAmong p c) found answer
leaf_adds p c g found answer size filled s a = grind (arith, nat_tests, adds_same, filled_within, only_filled)

-- where all squares are settled, nothing joins if the grid of the candidates is no solution
pub leaf_none : (p : Puzzle) (c : CandidatesValue) (g : GridValue) (found : Answer) → c.size ≡ p.size → IsFilled c g → (Solves p g → ⊥)
    → Adds (IsAmong p c) found found
leaf_none p c g found size filled n =
    adds_nothing (IsAmong p c) found (none_where_filled p c g size filled n)

-- ---- a value of a square, and then not

-- the part is what is left of the whole: what joins `found` by the part joins `first` by the whole
pub record IsRest (Whole : GridValue → Type 0) (first : Answer) (Part : GridValue → Type 0) (found : Answer) : Type 0 where
  pub joins : (answer : Answer) → Adds Part found answer → Adds Whole first answer

-- a grid within the candidates with another value in the cell stays within when the value goes from it
pub within_removed : (old new : CandidatesValue) (cell value : ℕ) (g : GridValue) → Removes old new cell value → IsWithin old g
    → number_at g cell ≢ value → IsWithin new g
within_removed old new cell value g r w n = record {
  each = λ c inside.
      let inside' : c < old.size * old.size = subst (λ (k : ℕ). c < k * k) r.size inside in
      rest_removed old new cell value c (number_at g c) r (⊎_elim (λ same. inr (λ e. n (ap (number_at g) (sym same) ∙ e))) (λ other. inl other) (cases_eq c cell)) ∙ w.each c inside';
}

-- after the solutions with a branch's value have joined, those without it are what is left of the whole
pub rest_branched : (p : Puzzle) (Whole : GridValue → Type 0) (first found more : Answer) (old new : CandidatesValue) (cell value : ℕ)
    → IsRest Whole first (IsAmong p old) found → Adds (IsAmongAt p old cell value) found more → Removes old new cell value
    → IsRest Whole first (IsAmong p new) more
rest_branched p Whole first found more old new cell value l a r = record {
  joins = λ answer b. l.joins answer (adds_then (IsAmongAt p old cell value) (IsAmong p new) (IsAmong p old) found more answer
      (λ h s. (s.0, s.1.0))
      (among_earlier p old new (removed_earlier old new cell value r))
      (λ h s. ⊎_elim (λ e. inl (s.0, (s.1, e))) (λ n. inr (s.0, within_removed old new cell value h r s.1 n)) (cases_eq (number_at h cell) value))
      a b);
}

-- where the part has no solution, all of the whole have joined
pub rest_none : (Whole : GridValue → Type 0) (first : Answer) (Part : GridValue → Type 0) (found : Answer) → IsRest Whole first Part found
    → ((h : GridValue) → Part h → ⊥) → Adds Whole first found
rest_none Whole first Part found l n = l.joins found (adds_nothing Part found n)

-- where a square has no candidate, no solution is among the candidates
pub dead_none : (p : Puzzle) (c : CandidatesValue) (cell : ℕ) → c.size ≡ p.size → HasNoCandidate c cell → (h : GridValue) → IsAmong p c h → ⊥
dead_none p c cell size dead h s =
    both_ways (may_be c cell (number_at h cell)) (dead.none (number_at h cell) (solution_pair p h c.size cell s.0 size dead.inside)) (s.1.each cell dead.inside)

-- ---- a search under way

-- how far a search got since its start
pub record IsUnderWay {P : Type 0} (puzzle : P → Puzzle) (start now : SearchValue P) (first found : Answer) : Type 0 where
  pub further : IsFurther start now
  pub longer : length start.candidates.trail ≤ length now.candidates.trail
  pub rest : IsRest (IsAmong (puzzle start.rules) start.candidates) first (IsAmong (puzzle now.rules) now.candidates) found

-- a search under way that is further, with this rest of the whole, is under way
under_way_further : {P : Type 0} (puzzle : P → Puzzle) (start old new : SearchValue P) (first found more : Answer)
    → IsUnderWay puzzle start old first found → IsFurther old new
    → IsRest (IsAmong (puzzle start.rules) start.candidates) first (IsAmong (puzzle new.rules) new.candidates) more
    → IsUnderWay puzzle start new first more
under_way_further puzzle start old new first found more u f rest =
    grind (arith, nat_tests, further_trans, prefix_length)

-- a search under way that is narrowed without a loss is under way
pub under_way_narrowed : {P : Type 0} (puzzle : P → Puzzle) (start old new : SearchValue P) (first found : Answer)
    → IsUnderWay puzzle start old first found → IsFurther old new
    → AreSame (IsAmong (puzzle old.rules) old.candidates) (IsAmong (puzzle new.rules) new.candidates)
    → IsUnderWay puzzle start new first found
under_way_narrowed puzzle start old new first found u f same =
    under_way_further puzzle start old new first found found u f (record {
      joins = λ answer a. u.rest.joins answer (adds_same (IsAmong (puzzle new.rules) new.candidates) (IsAmong (puzzle old.rules) old.candidates) found answer
          (λ h. (same h).1) (λ h. (same h).0) a);
    })

-- a search under way that tried a value of a square, and then took it away, is under way
pub under_way_branched : {P : Type 0} (puzzle : P → Puzzle) (start old now : SearchValue P) (next : CandidatesValue) (first found more : Answer)
    (cell value : ℕ) → IsUnderWay puzzle start old first found
    → Adds (IsAmongAt (puzzle old.rules) old.candidates cell value) found more → now ≡ old → Removes now.candidates next cell value
    → IsUnderWay puzzle start (record { rules = now.rules; candidates = next }) first more
under_way_branched {P} puzzle start old now next first found more cell value u a same r =
    let Q : SearchValue P → Type 0 = λ s. IsUnderWay puzzle start s first found in
    let R : SearchValue P → Type 0 = λ s. Adds (IsAmongAt (puzzle s.rules) s.candidates cell value) found more in
    let u' = subst Q (sym same) u in
    let p = puzzle now.rules in
    under_way_further puzzle start now (record { rules = now.rules; candidates = next }) first found more u'
    (record { rules = refl; less = removed_earlier now.candidates next cell value r })
    (rest_branched p (IsAmong (puzzle start.rules) start.candidates) first found more now.candidates next cell value u'.rest (subst R (sym same) a) r)

-- Each puzzle has its first solutions, as many as there may be; so it has none, several, or just one.
use Rattle.std.proofs.Common.{◌≡◌, ◌⊎◌, ℕ, zero, suc, ◌+◌, ◌-◌, ◌*◌, ◌<◌, ◌≤◌, true, false, List, [], ◌∷◌, ◌++◌, length, get_or, All, refl, sym, ap, ◌∙◌, subst, inl, inr, length-append, arith}
use Rattle.std.proofs.lemmas.Bool.{cases_eq, cases_lt}
use Rattle.std.proofs.lemmas.List.{get_or_append_left, get_or_push}
use Rattle.std.proofs.lemmas.List.Elements.{All-nil, All-head, All-push}
use Rattle.latin_board.specs.Squares.{GridValue, IsGrid, number_at}
use Rattle.latin_board.proofs.Numbers.{same_numbers}
use Rattle.trail_solver.specs.Puzzles.{Puzzle, Solves, solves_test}
use Rattle.trail_solver.specs.Solutions.{HasNoSolution, HasSeveralSolutions, IsOnlySolution}
use Rattle.trail_solver.specs.Listings.{IsBelow, AreFirst}
use Rattle.trail_solver.proofs.SolutionTests.{Decides-solves_test}
use Rattle.trail_solver.proofs.ListedSolutions.{AreFirst-none, AreFirst-full, AreFirst-only, AreFirst-same, AreFirst-then}

-- there is a list of the first of these
abbrev pub HasFirst : (GridValue → Type 0) → ℕ → Type 0
HasFirst A limit = (listed : List GridValue) × AreFirst A limit listed

module _ (p : Puzzle) where
  -- the solutions that begin with these numbers
  abbrev Begins : List ℕ → GridValue → Type 0
  Begins front g = Solves p g × ((k : ℕ) → k < length front → number_at g k ≡ get_or front k 0)

  -- the solutions that begin with these numbers and go on with v or a greater one
  abbrev GoesOn : List ℕ → ℕ → GridValue → Type 0
  GoesOn front v g = Begins front g × (v ≤ number_at g (length front))

  begins_shorter : (front : List ℕ) (v : ℕ) (g : GridValue) → Begins (front ++ v ∷ []) g
      → Begins front g × (number_at g (length front) ≡ v)
  begins_shorter front v g (solves, same) =
      let long = length-append front (v ∷ []) in (
        (solves, λ k inside. same k (omega arith) ∙ get_or_append_left front (v ∷ []) 0 k inside),
        same (length front) (omega arith) ∙ get_or_push front v 0 (length front) refl,
      )

  begins_longer : (front : List ℕ) (v : ℕ) (g : GridValue) → Begins front g → number_at g (length front) ≡ v
      → Begins (front ++ v ∷ []) g
  begins_longer front v g (solves, same) here = (
    solves,
    λ k inside.
        let long = length-append front (v ∷ []) in
        elim (cases_eq k (length front)) [
          | inl last ↦ ap (λ (n : ℕ). number_at g n) last ∙ here ∙ sym (get_or_push front v 0 k (sym last))
          | inr other ↦
              let before : k < length front = omega arith in
              same k before ∙ sym (get_or_append_left front (v ∷ []) 0 k before)
        ],
  )

  below_later : (front : List ℕ) (v : ℕ) (g h : GridValue) → Begins (front ++ v ∷ []) g → GoesOn front (v + 1) h → IsBelow g h
  below_later front v g h a b =
      let is = begins_shorter front v g a in
      record {
        place = length front;
        same = λ k inside. is.0.1 k inside ∙ sym (b.0.1 k inside);
        less = let more = b.1 in let here = is.1 in omega arith;
      }

  -- the first that go on with v or more are those that go on with v, and then those that go on with more
  first_from : (front : List ℕ) → ((v limit : ℕ) → v ≤ p.size → HasFirst (Begins (front ++ v ∷ [])) limit)
      → ((g : GridValue) → Solves p g → number_at g (length front) ≤ p.size)
      → (m v limit : ℕ) → v + m ≡ p.size + 1 → HasFirst (GoesOn front v) limit
  first_from front with_next within zero v limit all =
      ([], AreFirst-none (GoesOn front v) limit (λ g goes. let few = within g goes.0.0 in let more = goes.1 in omega arith))
  first_from front with_next within (suc m) v limit all =
      let here = with_next v limit (omega arith) in
      let later = first_from front with_next within m (v + 1) (limit - length here.0) (omega arith) in (
        here.0 ++ later.0,
        AreFirst-then (Begins (front ++ v ∷ [])) (GoesOn front (v + 1)) (GoesOn front v) limit here.0 later.0
            (λ g a. let is = begins_shorter front v g a in (is.0, omega (arith, is.1)))
            (λ g b. (b.0, omega (arith, b.1)))
            (λ g c. elim (cases_eq (number_at g (length front)) v) [
              | inl next ↦ inl (begins_longer front v g c.0 next)
              | inr other ↦ inr (c.0, let least = c.1 in omega arith)
            ])
            (λ g h a b. below_later front v g h a b) here.1 later.1,
      )

  module _ (smallest : 3 ≤ p.size) (largest : p.size ≤ 9) where
    -- where the numbers fill the grid, it is the only one that begins with them, if it is a solution
    whole_first : (front : List ℕ) (limit : ℕ) → length front ≡ p.size * p.size → All (λ n. n ≤ p.size) front
        → HasFirst (Begins front) limit
    whole_first front limit count within =
        let g : GridValue = record { size = p.size; numbers = front } in
        let grid : IsGrid g = record { smallest = smallest; largest = largest; count = count; within = within } in
        let same : (h : GridValue) → Begins front h → h ≡ g = λ h is.
        let squares : h.size * h.size ≡ p.size * p.size = ap (λ (w : ℕ). w * w) is.0.same_size in
        same_numbers h g is.0.is_grid grid is.0.same_size (λ cell inside. is.1 cell (omega arith)) in
        elim (solves_test p g) as (λ b. solves_test p g ≡ b → HasFirst (Begins front) limit) [
          | true ↦ λ yes. elim (cases_eq limit 0) [
            | inl none ↦ ([], AreFirst-full (Begins front) limit none)
            | inr some ↦
                (g ∷ [], AreFirst-only (Begins front) limit g ((Decides-solves_test p g grid).0 yes, λ k inside. refl) same (omega arith))
          ]
          | false ↦ λ no. (
            [],
            AreFirst-none (Begins front) limit (λ h is.
                let yes = (Decides-solves_test p g grid).1 (subst (λ (x : GridValue). Solves p x) (same h is) is.0) in
                let e : true ≡ false = sym yes ∙ no in cc),
          )
        ] refl

    first_begun : (n : ℕ) (front : List ℕ) (limit : ℕ) → length front + n ≡ p.size * p.size → All (λ v. v ≤ p.size) front
        → HasFirst (Begins front) limit
    first_begun zero front limit count within = whole_first front limit (omega arith) within
    first_begun (suc n) front limit count within =
        let next : (v limit : ℕ) → v ≤ p.size → HasFirst (Begins (front ++ v ∷ [])) limit = λ v most few.
        first_begun n (front ++ v ∷ []) most (let long = length-append front (v ∷ []) in omega arith)
        (All-push (λ i. i ≤ p.size) front v within few) in
        let inside : (g : GridValue) → Solves p g → number_at g (length front) ≤ p.size = λ g solves.
        let squares : g.size * g.size ≡ p.size * p.size = ap (λ (w : ℕ). w * w) solves.same_size in
        let at = solves.is_grid.within (length front) 0 (let all = solves.is_grid.count in omega arith) in
        let same = solves.same_size in omega arith in
        let all = first_from front next inside (p.size + 1) 0 limit (omega arith) in
        (all.0, AreFirst-same (GoesOn front 0) (Begins front) limit all.0 (λ g a. a.0) (λ g b. (b, omega arith)) all.1)

  -- for each limit there are the first solutions of a puzzle
  pub first_solutions : (limit : ℕ) → HasFirst (Solves p) limit
  first_solutions limit =
      elim (cases_lt p.size 3) [
        | inl small ↦ ([], AreFirst-none (Solves p) limit (λ g s. let low = s.is_grid.smallest in let same = s.same_size in omega arith))
        | inr smallest ↦ elim (cases_lt 9 p.size) [
          | inl great ↦ ([], AreFirst-none (Solves p) limit (λ g s. let high = s.is_grid.largest in let same = s.same_size in omega arith))
          | inr largest ↦
              let all = first_begun smallest largest (p.size * p.size) [] limit (omega arith) (All-nil (λ v. v ≤ p.size)) in
              (all.0, AreFirst-same (Begins []) (Solves p) limit all.0 (λ g a. a.0) (λ g b. (b, λ k inside. absurd (omega arith))) all.1)
        ]
      ]

  -- ---- none, several or one

  by_first_two : (listed : List GridValue) → AreFirst (Solves p) 2 listed
      → HasNoSolution p ⊎ (HasSeveralSolutions p ⊎ ((g : GridValue) × IsOnlySolution p g))
  by_first_two [] first = inl (λ g s. elim (first.others g s) [
    | inl listed ↦ let inside = listed.1 in omega arith
    | inr full ↦ let count = full.0 in omega arith
  ])
  by_first_two (g ∷ []) first = inr (inr (
    g,
    record {
      solves = All-head (Solves p) g [] first.solutions;
      only = λ h s. elim (first.others h s) [
        | inl listed ↦ sym (the_one g h listed)
        | inr full ↦ absurd (let count = full.0 in omega arith)
      ];
    },
  ))
    where
      the_one : (x y : GridValue) → (k : ℕ) × (k < length (x ∷ [])) × (get_or (x ∷ []) k y ≡ y) → x ≡ y
      the_one x y (zero, inside, is) = is
      the_one x y (suc k, inside, is) = absurd (omega arith)
  by_first_two (g ∷ h ∷ more) first = inr (inl (record {
    one = g;
    other = h;
    one_solves = first.solutions 0 g (omega arith);
    other_solves = first.solutions 1 g (omega arith);
    differ = λ same. let less : IsBelow g h = first.rising 0 1 g (omega arith) (omega arith) in
        let there = less.less in
        let e = ap (λ (x : GridValue). get_or x.numbers less.place 0) same in omega arith;
  }))

  pub solutions_counted : HasNoSolution p ⊎ (HasSeveralSolutions p ⊎ ((g : GridValue) × IsOnlySolution p g))
  solutions_counted = let first = first_solutions 2 in by_first_two first.0 first.1

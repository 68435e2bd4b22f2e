-- Where a pass over the rows and columns finds nothing, no reason of theirs strikes anything that is left.
use Rattle.std.proofs.lemmas.Bool.Decides.{nat_tests}
use Rattle.std.proofs.Common.{◌≡◌, ◌≢◌, ◌↔◌, ℕ, zero, suc, ◌+◌, ◌-◌, ◌*◌, ◌^◌, ◌⊎◌, ◌<◌, ◌≤◌, true, false, count_ones, inl, inr, refl, sym, ◌∙◌, subst, arith}
use Rattle.std.proofs.lemmas.Bool.{both_ways, cases_eq, cases_lt, cases_Bool, false_from_ne_true}
use Rattle.number_sets.specs.Sets.{has_number, IsSubset}
use Rattle.number_sets.proofs.Members.{has_number-none, below_from_numbers}
use Rattle.number_sets.proofs.OneMore.{IsAdded, added_with, added_lacks, added_has, added_other, added_ones}
use Rattle.latin_board.specs.Lines.{line_cell}
use Rattle.latin_board.proofs.LatinLines.{line_cell_inside}
use Rattle.trail_solver.specs.Pairs.{IsPair}
use Rattle.trail_solver.specs.Candidates.{CandidatesValue, may_be}
use Rattle.line_steps.specs.Left.{IsLeft, HasNoOther}
use Rattle.line_steps.specs.Reasons.{IsBySet}
use Rattle.line_steps.specs.Inner.LineStrikes.{IsRestQuiet}
use Rattle.line_steps.specs.Inner.Groups.{IsUnion, HasSeveral, IsGroupQuiet}
use Rattle.line_steps.proofs.Counts.{no_more, within_counts, some_counted}
use Rattle.line_steps.proofs.OtherNumbers.{one_less, was_other}
use Rattle.line_steps.proofs.QuietLines.{gone_from}

-- ---- unions

-- the statement holds, or it doesn't
abbrev Decided : Type 0 → Type 0
Decided P = P ⊎ (P → ⊥)

-- if each of two statements holds or doesn't, so does the statement that both hold
both : {P Q : Type 0} → Decided P → Decided Q → Decided (P × Q)
both p q = elim p [
  | inl is ↦ elim q [ inl too ↦ inl (is, too) | inr lacks ↦ inr (λ h. lacks h.1) ]
  | inr lacks ↦ inr (λ h. lacks h.0)
]

-- a set has the number or lacks it
has_or_lacks : (set k : ℕ) → Decided (has_number set k ≡ true)
has_or_lacks set k = elim (cases_Bool (has_number set k)) [ inl has ↦ inl has | inr lacks ↦ inr (λ has. both_ways (has_number set k) lacks has) ]

-- a value is left of the square or isn't
left_or_gone : (c : CandidatesValue) (cell v : ℕ) → cell < c.size * c.size → Decided (IsLeft c cell v)
left_or_gone c cell v inside = grind (arith, nat_tests, cases_lt, cases_Bool, both_ways)

-- one of the first numbers is of a kind, or none is
some_or_none : (P : ℕ → Type 0) (n : ℕ) → ((k : ℕ) → k < n → Decided (P k)) → Decided ((k : ℕ) × (k < n) × P k)
some_or_none P zero decide = inr (λ h. omega (arith, h.1))
some_or_none P (suc n) decide = elim (decide n (omega arith)) [
  | inl here ↦ inl (n, omega arith, here)
  | inr lacks ↦ elim (some_or_none P n (λ k low. decide k (omega (arith, low)))) [
    | inl h ↦ inl (h.0, omega (arith, h.1), h.2)
    | inr none ↦ inr (λ h. elim (cases_eq h.0 n) [
      | inl same ↦ lacks (subst P same h.2)
      | inr other ↦ none (h.0, omega (arith, h.1, other), h.2)
    ])
  ]
]

-- there is a set of the numbers below n that are of a kind
numbers_that : (P : ℕ → Type 0) → ((k : ℕ) → Decided (P k)) → (n : ℕ) → (set : ℕ) × ((v : ℕ) → (has_number set v ≡ true) ↔ ((v < n) × P v))
numbers_that P decide zero = (0, λ v. (λ has. absurd (both_ways (has_number 0 v) (has_number-none v) has), λ h. absurd (omega (arith, h.0))))
numbers_that P decide (suc n) =
    let rest = numbers_that P decide n in
    let set = rest.0 in
    let lacks : has_number set n ≡ false = false_from_ne_true (has_number set n) (λ has. let h = (rest.1 n).0 has in omega (arith, h.0)) in
    elim (decide n) [
      | inl holds ↦
          let a : IsAdded set n (set + 2 ^ n) = added_with set n (set + 2 ^ n) lacks refl in (
            set + 2 ^ n,
            λ v. elim (cases_eq v n) [
              | inl same ↦ (
                λ has. (omega (arith, same), subst P (sym same) holds),
                λ h. subst (λ (k : ℕ). has_number (set + 2 ^ n) k ≡ true) (sym same) (added_has a),
              )
              | inr other ↦ (
                λ has. let h = (rest.1 v).0 (sym (added_other a v other) ∙ has) in (omega (arith, h.0), h.1),
                λ h. added_other a v other ∙ (rest.1 v).1 (omega (arith, h.0, other), h.1),
              )
            ],
          )
      | inr absent ↦ (
        set,
        λ v. (
          λ has. let h = (rest.1 v).0 has in (omega (arith, h.0), h.1),
          λ h. (rest.1 v).1 (elim (cases_eq v n) [
            | inl same ↦ absurd (absent (subst P same h.1))
            | inr other ↦ (omega (arith, h.0, other), h.1)
          ]),
        ),
      )
    ]

-- each group of a line's squares has its union
union_of_group : (c : CandidatesValue) (line squares : ℕ) → line < 2 * c.size → ((k : ℕ) → has_number squares k ≡ true → k < c.size)
    → (union : ℕ) × IsUnion c.size c line squares union
union_of_group c line squares line_is inside =
    let Here : ℕ → ℕ → Type 0 = λ v k. (has_number squares k ≡ true) × IsLeft c (line_cell c.size line k) v in
    let u = numbers_that (λ v. (k : ℕ) × (k < c.size) × Here v k) (λ v. some_or_none (Here v) c.size (λ k low.
    both (has_or_lacks squares k) (left_or_gone c (line_cell c.size line k) v (line_cell_inside c.size line k line_is low)))) (c.size + 1) in (
      u.0,
      record {
        all = λ k v has left. (u.1 v).1 (omega (arith, left.pair.high), (k, inside k has, (has, left)));
        only = λ v has. let h = ((u.1 v).0 has).1 in (h.0, h.2.0, h.2.1);
      },
    )

-- the values of a union are below 16
below_sixteen : (c : CandidatesValue) (line squares union : ℕ) → c.size ≤ 9 → IsUnion c.size c line squares union
    → (v : ℕ) → has_number union v ≡ true → v < 16
below_sixteen c line squares union small u v has = let left = (u.only v has).2 in omega (arith, left.pair.high, small)

-- at most one value is left of the square
abbrev IsLone : CandidatesValue → ℕ → Type 0
IsLone c cell = (u v : ℕ) → IsLeft c cell u → IsLeft c cell v → u ≡ v

-- some value is left of the square, or none is
some_left : (c : CandidatesValue) (cell : ℕ) → cell < c.size * c.size → ((v : ℕ) × IsLeft c cell v) ⊎ ((v : ℕ) → IsLeft c cell v → ⊥)
some_left c cell inside = elim (some_or_none (IsLeft c cell) (c.size + 1) (λ v low. left_or_gone c cell v inside)) [
  | inl h ↦ inl (h.0, h.2)
  | inr none ↦ inr (λ v left. none (v, omega (arith, left.pair.high), left))
]

-- of a square of the grid at most one value is left, or several are
lone_or_several : (c : CandidatesValue) (cell : ℕ) → cell < c.size * c.size → IsLone c cell ⊎ HasSeveral c cell
lone_or_several c cell inside = elim (some_left c cell inside) [
  | inl (u, first) ↦ elim (some_or_none (λ v. (u ≢ v) × IsLeft c cell v) (c.size + 1) (λ v low. both (apart u v) (left_or_gone c cell v inside))) [
    | inl h ↦ inr (u, h.0, h.2.0, first, h.2.1)
    | inr none ↦
        let only : (v : ℕ) → IsLeft c cell v → u ≡ v = λ v left. elim (cases_eq u v) [
          | inl same ↦ same
          | inr other ↦ absurd (none (v, omega (arith, left.pair.high), (other, left)))
        ] in
        inl (λ v w one two. sym (only v one) ∙ only w two)
  ]
  | inr none ↦ inl (λ u v one two. absurd (none u one))
]
  where
    apart : (u v : ℕ) → Decided (u ≢ v)
    apart u v = elim (cases_eq u v) [ inl same ↦ inr (λ h. h same) | inr other ↦ inl other ]

-- at most one value is left of one of these squares of a line, or several are left of each
lone_among : (c : CandidatesValue) (line squares : ℕ) → line < 2 * c.size
    → ((k : ℕ) × (k < c.size) × (has_number squares k ≡ true) × IsLone c (line_cell c.size line k))
    ⊎ ((k : ℕ) → k < c.size → has_number squares k ≡ true → HasSeveral c (line_cell c.size line k))
lone_among c line squares line_is =
    let each : (k : ℕ) → k < c.size → IsLone c (line_cell c.size line k) ⊎ HasSeveral c (line_cell c.size line k) = λ k low.
    lone_or_several c (line_cell c.size line k) (line_cell_inside c.size line k line_is low) in
    elim (some_or_none (λ k. (has_number squares k ≡ true) × IsLone c (line_cell c.size line k)) c.size (λ k low.
    both (has_or_lacks squares k) (elim (each k low) [
      | inl lone ↦ inl lone
      | inr (u, v, apart, first, second) ↦ inr (λ lone. apart (lone u v first second))
    ]))) [
      | inl h ↦ inl (h.0, h.1, h.2.0, h.2.1)
      | inr none ↦ inr (λ k low has. elim (each k low) [
        | inl lone ↦ absurd (none (k, low, (has, lone)))
        | inr several ↦ several
      ])
    ]

-- the only value of a square of a quiet line is left of no other square of the line
lone_quiet : (c : CandidatesValue) (line k index v : ℕ) → IsRestQuiet line c → k < c.size → index < c.size → index ≢ k
    → HasNoOther c (line_cell c.size line k) v → IsLeft c (line_cell c.size line index) v → ⊥
lone_quiet c line k index v rest k_is index_is apart alone left =
    both_ways (may_be c (line_cell c.size line index) v)
    (rest index v index_is left.pair (inl (k, k_is, λ e. apart (sym e), alone))) left.may

-- a group without one of its squares, and the union of what is left of the others
record IsRest (c : CandidatesValue) (line squares union k : ℕ) : Type 0 where
  fewer : ℕ
  added : IsAdded fewer k squares
  inside : (j : ℕ) → has_number fewer j ≡ true → j < c.size
  part : ℕ
  is : IsUnion c.size c line fewer part
  sub : IsSubset part union
  low : (v : ℕ) → has_number part v ≡ true → v < 16
  ones : count_ones squares ≡ count_ones fewer + 1

-- for each square of a group there is the group without it, with the union of the other squares
rest_of : (c : CandidatesValue) (line squares union k : ℕ) → c.size ≤ 9 → line < 2 * c.size → ((j : ℕ) → has_number squares j ≡ true → j < c.size)
    → IsUnion c.size c line squares union → has_number squares k ≡ true → IsRest c line squares union k
rest_of c line squares union k small line_is inside u has =
    let a = one_less squares k has in
    let fewer = squares - 2 ^ k in
    let in_line : (j : ℕ) → has_number fewer j ≡ true → j < c.size = λ j there. inside j (was_other fewer k squares j a there).1 in
    let w = union_of_group c line fewer line_is in_line in
    record {
      fewer = fewer;
      added = a;
      inside = in_line;
      part = w.0;
      is = w.1;
      sub = λ x there. let j = w.1.only x there in u.all j.0 x (was_other fewer k squares j.0 a j.1).1 j.2;
      low = below_sixteen c line fewer w.0 small w.1;
      ones = added_ones a;
    }

-- a value that is left of this square of a group, and of none of its others, makes the union greater
one_greater : (c : CandidatesValue) (line squares union k v : ℕ) (r : IsRest c line squares union k) → c.size ≤ 9 → IsUnion c.size c line squares union
    → has_number union v ≡ true → has_number r.part v ≡ false → count_ones r.part + 1 ≤ count_ones union
one_greater c line squares union k v r small u has lacks =
    let more = r.part + 2 ^ v in
    let a = added_with r.part v more lacks refl in
    let low = below_sixteen c line squares union small u in
    let sub : IsSubset more union = λ x there. elim (cases_eq x v) [
      | inl same ↦ subst (λ (i : ℕ). has_number union i ≡ true) (sym same) has
      | inr other ↦ r.sub x (sym (added_other a x other) ∙ there)
    ] in
    omega (arith, within_counts more union (λ x there. low x (sub x there)) sub, added_ones a)

-- if no more values are left of some squares of a quiet line than there are squares, none of these values is
-- left elsewhere in the line; if there are fewer, nothing at all is left elsewhere
none_left : (n : ℕ) (c : CandidatesValue) (line squares union : ℕ) → c.size ≤ 9 → line < 2 * c.size → IsRestQuiet line c → IsGroupQuiet line c
    → count_ones squares ≡ n → ((k : ℕ) → has_number squares k ≡ true → k < c.size) → IsUnion c.size c line squares union
    → count_ones union ≤ count_ones squares → (index v : ℕ) → index < c.size → has_number squares index ≡ false
    → IsLeft c (line_cell c.size line index) v → (has_number union v ≡ true) ⊎ (count_ones union < count_ones squares) → ⊥
none_left zero c line squares union small line_is rest groups count inside u most index v index_is outside left which = elim which [
  | inl has ↦ let k = u.only v has in omega (arith, added_ones (one_less squares k.0 k.1), count)
  | inr few ↦ omega (arith, count, few)
]
none_left (suc n) c line squares union small line_is rest groups count inside u most index v index_is outside left which =
    elim (lone_among c line squares line_is) [
      | inl k ↦
          let r = rest_of c line squares union k.0 small line_is inside u k.2 in
          let apart : index ≢ k.0 = λ same. both_ways (has_number squares index) outside (subst (λ (i : ℕ). has_number squares i ≡ true) (sym same) k.2) in
          elim (some_left c (line_cell c.size line k.0) (line_cell_inside c.size line k.0 line_is k.1)) [
            | inr none ↦ lone_quiet c line k.0 index v rest k.1 index_is apart (λ other there. absurd (none other there)) left
            | inl x ↦
                let here = x.1 in
                let alone : HasNoOther c (line_cell c.size line k.0) x.0 = λ other there. k.3 other x.0 there here in
                let lacks : has_number r.part x.0 ≡ false = false_from_ne_true (has_number r.part x.0) (λ has.
                let j = r.is.only x.0 has in
                lone_quiet c line k.0 j.0 x.0 rest k.1 (r.inside j.0 j.1) (was_other r.fewer k.0 squares j.0 r.added j.1).0 alone j.2) in
                let fewer = one_greater c line squares union k.0 x.0 r small u (u.all k.0 x.0 k.2 here) lacks in
                none_left n c line r.fewer r.part small line_is rest groups (omega (arith, count, r.ones)) r.inside r.is (omega (arith, most, fewer, r.ones))
                index v index_is (sym (added_other r.added index apart) ∙ outside) left (elim which [
                  | inl has ↦
                      let j = u.only v has in
                      elim (cases_eq j.0 k.0) [
                        | inl same ↦
                            let there : IsLeft c (line_cell c.size line k.0) v = subst (λ (i : ℕ). IsLeft c (line_cell c.size line i) v) same j.2 in
                            absurd (lone_quiet c line k.0 index v rest k.1 index_is apart (λ other o. k.3 other v o there) left)
                        | inr other ↦ inl (r.is.all j.0 v (sym (added_other r.added j.0 other) ∙ j.1) j.2)
                      ]
                  | inr few ↦ inr (omega (arith, few, fewer, r.ones))
                ])
          ]
      | inr several ↦
          let each : (k : ℕ) → has_number squares k ≡ true → HasSeveral c (line_cell c.size line k) = λ k has. several k (inside k has) has in
          elim (cases_lt (count_ones union) (count_ones squares)) [
            | inl few ↦
                let k = some_counted squares n count (λ j has. omega (arith, inside j has, small)) in
                let r = rest_of c line squares union k.0 small line_is inside u k.1 in
                let x = each k.0 k.1 in
                let less = within_counts r.part union r.low r.sub in
                none_left n c line r.fewer r.part small line_is rest groups (omega (arith, count, r.ones)) r.inside r.is (omega (arith, few, less, r.ones))
                k.0 x.0 (inside k.0 k.1) (added_lacks r.added) x.3 (elim (cases_lt (count_ones r.part) (count_ones r.fewer)) [
                  | inl fewer ↦ inr fewer
                  | inr more ↦ inl (no_more r.part union x.0 r.low r.sub (omega (arith, more, less, few, r.ones))
                      (omega (arith, x.3.pair.high, small)) (u.all k.0 x.0 k.1 x.3))
                ])
            | inr enough ↦ elim which [
              | inl has ↦ both_ways (may_be c (line_cell c.size line index) v) (groups (line_cell c.size line index) v left.pair (record {
                squares = squares;
                below = below_from_numbers squares c.size (λ j far. false_from_ne_true (has_number squares j) (λ there. omega (arith, inside j there, far)));
                several = each;
                union = union;
                is = u;
                same = omega (arith, most, enough);
                index = index;
                index_is = index_is;
                outside = outside;
                here = refl;
                one = has;
              })) left.may
              | inr few ↦ omega (arith, few, enough)
            ]
          ]
    ]

-- if lines and groups are quiet along all lines, no set of squares strikes anything that is left
pub set_quiet : (c : CandidatesValue) (line squares values cell v : ℕ) → c.size ≤ 9 → ((line : ℕ) → line < 2 * c.size → IsRestQuiet line c)
    → ((line : ℕ) → line < 2 * c.size → IsGroupQuiet line c) → IsPair c.size cell v → IsBySet c.size c line squares values cell v → may_be c cell v ≡ false
set_quiet c line squares values cell v small rest groups pair h =
    let there : IsPair c.size (line_cell c.size line h.index) v = subst (λ (n : ℕ). IsPair c.size n v) h.here pair in
    let u = union_of_group c line squares h.line_is h.inside in
    let part : IsSubset u.0 values = λ x has. let k = u.1.only x has in h.among k.0 x k.1 k.2 in
    let low = below_sixteen c line squares u.0 small u.1 in
    let count = within_counts u.0 values low part in
    subst (λ (n : ℕ). may_be c n v ≡ false) (sym h.here)
    (gone_from c (line_cell c.size line h.index) v there (λ left.
    none_left (count_ones squares) c line squares u.0 small h.line_is (rest line h.line_is) (groups line h.line_is) refl h.inside u.1
    (omega (arith, count, h.same)) h.index v h.index_is h.outside left (elim (cases_lt (count_ones u.0) (count_ones squares)) [
      | inl few ↦ inr few
      | inr enough ↦ inl (no_more u.0 values v low part (omega (arith, enough, count, h.same)) (omega (arith, pair.high, small)) h.one)
    ])))

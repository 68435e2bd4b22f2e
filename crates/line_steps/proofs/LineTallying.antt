-- The tally of a line's squares: one square more, and what the whole tally says of what the squares strike in one another.
use Rattle.std.proofs.lemmas.Bool.Decides.{nat_tests}
use Rattle.std.proofs.Common.{◌≡◌, ℕ, ◌+◌, ◌^◌, ◌<◌, ◌≤◌, ◌↔◌, ◌⊎◌, Bool, true, false, not, ◌&&◌, ◌||◌, ◌==◌, nat_le, inl, inr, refl, sym, ap, ◌∙◌, subst, arith}
use Rattle.std.proofs.lemmas.Bool.{cases_Bool, cases_eq, cases_order, eq-eqb, eqb-true, both_ways, false_from_ne_true, and_parts, and_from, le-leb, leb-true, or_left, or_right, not-true, or_cases}
use Rattle.number_sets.specs.Sets.{has_number, no_numbers, IsEmpty, IsShared, IsSingle}
use Rattle.number_sets.proofs.Members.{has_number-none}
use Rattle.latin_board.specs.Lines.{line_cell}
use Rattle.trail_solver.specs.Candidates.{CandidatesValue, IsSetOf, may_be}
use Rattle.line_steps.specs.Left.{IsLeft, HasNoOtherPlace}
use Rattle.line_steps.specs.Inner.LineStrikes.{IsAlone, IsByRest, IsLeftByRest, IsDead, IsLiveLine, IsRestQuiet}
use Rattle.line_steps.specs.Inner.LineTallies.{AreTallied, IsTallyOf, IsCounted, IsAloneBefore, IsForced, IsFree, IsHidden, IsQuietTally, Goes, IsKeptOf}
use Rattle.line_steps.proofs.OtherNumbers.{another, has_rest}
use Rattle.line_steps.specs.declared.lines.latin.LineTally.{LineTally}
use Rattle.std.proofs.Common.{◌*◌}
use Rattle.line_steps.specs.Takes.{Strikes, Takes}
use Rattle.line_steps.proofs.Takes.{set_before, takes_next}

-- ---- squares and their sets

-- a value is in a square's set exactly if it is left of the square
pub left_is : (c : CandidatesValue) (cell set : ℕ) → IsSetOf c cell set → (v : ℕ) → (has_number set v ≡ true) ↔ IsLeft c cell v
left_is c cell set is v = (
  λ has. let h = (is v).0 has in record { pair = h.0; may = h.1 },
  λ left. (is v).1 (left.pair, left.may),
)

-- the only number of a square's set is alone in the square
alone_is : (c : CandidatesValue) (cell set : ℕ) → IsSetOf c cell set → (v : ℕ) → IsSingle set v ↔ IsAlone c cell v
alone_is c cell set is v =
    let left = left_is c cell set is in (
      λ h. record { left = (left v).0 h.has; alone = λ other there. h.alone other ((left other).1 there) },
      λ h. record { has = (left v).1 h.left; alone = λ other there. h.alone other ((left other).0 there) },
    )

-- ---- one square more

-- a property holds of one of the first k + 1 squares exactly if it does of one of the first k, or of the next
found_more : (P : ℕ → Type 0) (k : ℕ) {Before Here Now : Type 0} → Before ↔ ((j : ℕ) × (j < k) × P j) → Here ↔ P k
    → Now ↔ (Before ⊎ Here) → Now ↔ ((j : ℕ) × (j < k + 1) × P j)
found_more P k before here now = grind (arith, nat_tests, cases_eq)

-- a property holds of two of the first k + 1 squares exactly if of two of the first k, or of one and the next
twice_more : (P : ℕ → Type 0) (k : ℕ) {Once Before Here Now : Type 0} → Once ↔ ((j : ℕ) × (j < k) × P j)
    → Before ↔ ((i : ℕ) × (j : ℕ) × (i < j) × (j < k) × P i × P j) → Here ↔ P k → Now ↔ (Before ⊎ (Once × Here))
    → Now ↔ ((i : ℕ) × (j : ℕ) × (i < j) × (j < k + 1) × P i × P j)
twice_more P k once before here now = (
  λ n. elim (now.0 n) [
    | inl old ↦ let h = before.0 old in (h.0, h.1, h.2, omega (arith, h.3), h.4, h.5)
    | inr new ↦ let h = once.0 new.0 in (h.0, k, h.1, omega arith, h.2, here.0 new.1)
  ],
  λ h. now.1 (elim (cases_eq h.1 k) [
    | inl same ↦ inr (once.1 (h.0, omega (arith, h.2, same), h.4), here.1 (subst P same h.5))
    | inr other ↦ inl (before.1 (h.0, h.1, h.2, omega (arith, h.3, other), h.4, h.5))
  ]),
)

-- the tally of the first k squares, with the set of square k counted, is that of the first k + 1
pub tally_more : (c : CandidatesValue) (line k set : ℕ) (t u : LineTally) → IsSetOf c (line_cell c.size line k) set → AreTallied c line k t
    → IsCounted t set u → AreTallied c line (k + 1) u
tally_more c line k set t u is h more =
    let cell = line_cell c.size line k in
    let left = left_is c cell set is in
    let own = alone_is c cell set is in
    record {
      once = λ v. found_more (λ j. IsLeft c (line_cell c.size line j) v) k (h.once v) (left v) (more.once v);
      twice = λ v. twice_more (λ j. IsLeft c (line_cell c.size line j) v) k (h.once v) (h.twice v) (left v) (more.twice v);
      singles = λ v. found_more (λ j. IsAlone c (line_cell c.size line j) v) k (h.singles v) (own v) (more.singles v);
      some = λ j low. elim (cases_eq j k) [
        | inl same ↦
            let v = more.some.0 in
            (v, subst (λ (i : ℕ). IsLeft c (line_cell c.size line i) v) (sym same) ((left v).0 more.some.1))
        | inr other ↦ h.some j (omega (arith, low, other))
      ];
      apart = λ i j v before low one two. elim (cases_eq j k) [
        | inl same ↦
            let here = (own v).1 (subst (λ (n : ℕ). IsAlone c (line_cell c.size line n) v) same two) in
            both_ways (has_number t.singles v) (more.fresh v here) ((h.singles v).1 (i, omega (arith, before, same), one))
        | inr other ↦ h.apart i j v before (omega (arith, low, other)) one two
      ];
    }

-- ---- lines that can't hold their numbers

-- if nothing is left of a square of the line, it strikes all in the others
pub empty_dead : (c : CandidatesValue) (line k set places : ℕ) → k < c.size → IsSetOf c (line_cell c.size line k) set → IsEmpty set
    → ((j : ℕ) → j < c.size → has_number places j ≡ true) → IsDead line places c
empty_dead c line k set places low is none all =
    let nothing : (v : ℕ) → IsLeft c (line_cell c.size line k) v → ⊥ = λ v left.
    both_ways (has_number set v) (none v) ((left_is c (line_cell c.size line k) set is v).1 left) in
    record {
      place = k;
      low = low;
      has = all k low;
      struck = λ j v j_is has left. inl (
        k,
        low,
        λ same. nothing v (subst (λ (i : ℕ). IsLeft c (line_cell c.size line i) v) (sym same) left),
        λ other there. absurd (nothing other there),
      );
    }

-- a square's only value is alone in an earlier one, which strikes it
pub clash_dead : (c : CandidatesValue) (line k set places : ℕ) (t : LineTally) → k < c.size → IsSetOf c (line_cell c.size line k) set
    → AreTallied c line k t → IsAloneBefore t set → ((j : ℕ) → has_number places j ≡ (j == k)) → IsDead line places c
clash_dead c line k set places t low is h again one =
    let (j, before, first) = (h.singles again.value).0 again.before in
    let here = (alone_is c (line_cell c.size line k) set is again.value).0 again.here in
    record {
      place = k;
      low = low;
      has = one k ∙ eq-eqb k k refl;
      struck = λ i v i_is has left.
          let last : i ≡ k = eqb-true i k (sym (one i) ∙ has) in
          let same : v ≡ again.value = here.alone v (subst (λ (n : ℕ). IsLeft c (line_cell c.size line n) v) last left) in
          inl (j, omega (arith, before, low), λ e. omega (arith, e, before, last), λ other there. first.alone other there ∙ sym same);
    }

-- if a value is left of no square of the line, each square is its last place, and all others go there
pub lost_dead : (c : CandidatesValue) (line every lost places : ℕ) (t : LineTally) → AreTallied c line c.size t
    → ((v : ℕ) → has_number every v ≡ (nat_le 1 v && nat_le v c.size))
    → ((v : ℕ) → has_number lost v ≡ (has_number every v && not (has_number t.once v))) → (v : ℕ) × (has_number lost v ≡ true)
    → ((j : ℕ) → j < c.size → has_number places j ≡ true) → IsDead line places c
lost_dead c line every lost places t h all lost_is (v, has) whole =
    let (here, none) = (has_rest every t.once lost v lost_is).0 has in
    let both = and_parts (nat_le 1 v) (nat_le v c.size) (sym (all v) ∙ here) in
    let one = leb-true 1 v both.0 in
    let most = leb-true v c.size both.1 in
    let nowhere : (k : ℕ) → k < c.size → IsLeft c (line_cell c.size line k) v → ⊥ = λ k low left. none ((h.once v).1 (k, low, left)) in
    let some : 0 < c.size = omega (arith, one, most) in
    record {
      place = 0;
      low = some;
      has = whole 0 some;
      struck = λ k u low has left. inr (
        v,
        one,
        most,
        λ same. nowhere k low (subst (λ (n : ℕ). IsLeft c (line_cell c.size line k) n) same left),
        λ j j_is there. absurd (nowhere j j_is there),
      );
    }

-- the tally of all squares is the line's tally if no value is missing from it
pub whole_tally : (c : CandidatesValue) (line every lost : ℕ) (t : LineTally) → AreTallied c line c.size t
    → ((v : ℕ) → has_number every v ≡ (nat_le 1 v && nat_le v c.size))
    → ((v : ℕ) → has_number lost v ≡ (has_number every v && not (has_number t.once v))) → IsEmpty lost → IsTallyOf line c t
whole_tally c line every lost t h all lost_is none = grind (arith, nat_tests, cases_Bool, both_ways, has_rest, and_from, nat_le, le-leb)

-- ---- what the squares strike

-- a value that is left of a square, and not of two, has no other place
no_other : (c : CandidatesValue) (line k u : ℕ) (t : LineTally) → k < c.size → AreTallied c line c.size t → IsLeft c (line_cell c.size line k) u
    → has_number t.twice u ≡ false → HasNoOtherPlace c line u k
no_other c line k u t low h here once j j_is there = elim (cases_order j k) [
  | inl same ↦ same
  | inr order ↦ absurd (both_ways (has_number t.twice u) once ((h.twice u).1 (elim order [
    | inl before ↦ (j, k, before, low, there, here)
    | inr after ↦ (k, j, after, j_is, here, there)
  ])))
]

-- a value that has no other place is left here, and of no two squares
only_place : (c : CandidatesValue) (line k u : ℕ) (t : LineTally) → IsTallyOf line c t → 1 ≤ u → u ≤ c.size → HasNoOtherPlace c line u k
    → IsLeft c (line_cell c.size line k) u × IsHidden t u
only_place c line k u t h low high one =
    let once = h.placed u low high in
    let at = (h.tally.once u).0 once in (
      subst (λ (i : ℕ). IsLeft c (line_cell c.size line i) u) (one at.0 at.1 at.2) at.2,
      record {
        once = once;
        lone = false_from_ne_true (has_number t.twice u) (λ twice.
            let two = (h.tally.twice u).0 twice in
            let first = one two.0 (omega (arith, two.2, two.3)) two.4 in
            let second = one two.1 two.3 two.5 in
            omega (arith, first, second, two.2));
      },
    )

-- if nothing but the value is left of a square, the value is left of it
alone_there : (c : CandidatesValue) (line j v : ℕ) (t : LineTally) → IsTallyOf line c t → j < c.size
    → ((other : ℕ) → IsLeft c (line_cell c.size line j) other → other ≡ v) → IsAlone c (line_cell c.size line j) v
alone_there c line j v t h low alone =
    let x = h.tally.some j low in
    record { left = subst (λ (n : ℕ). IsLeft c (line_cell c.size line j) n) (alone x.0 x.1) x.1; alone = alone }

-- a value that the other squares strike can't stay
rest_goes : (c : CandidatesValue) (line k set v : ℕ) (t : LineTally) → k < c.size → IsSetOf c (line_cell c.size line k) set → IsTallyOf line c t
    → IsByRest c line k v → Goes t set v
rest_goes c line k set v t low is h by =
    let cell = line_cell c.size line k in elim by [
      | inl other ↦
          let there = alone_there c line other.0 v t h other.1 other.3 in
          inl (
            (h.tally.singles v).1 (other.0, other.1, there),
            λ single.
                let here = (alone_is c cell set is v).0 single in
                elim (cases_order other.0 k) [
                  | inl same ↦ other.2 same
                  | inr order ↦ elim order [
                    | inl before ↦ h.tally.apart other.0 k v before low there here
                    | inr after ↦ h.tally.apart k other.0 v after other.1 here there
                  ]
                ],
          )
      | inr last ↦
          let place = only_place c line k last.0 t h last.1 last.2 last.4 in
          inr (last.0, (left_is c cell set is last.0).1 place.0, place.1, last.3)
    ]

-- a value that can't stay is struck by the other squares
goes_rest : (c : CandidatesValue) (line k set v : ℕ) (t : LineTally) → k < c.size → IsSetOf c (line_cell c.size line k) set → IsTallyOf line c t
    → Goes t set v → IsByRest c line k v
goes_rest c line k set v t low is h goes =
    let cell = line_cell c.size line k in elim goes [
      | inl alone ↦
          let by = (h.tally.singles v).0 alone.0 in
          inl (
            by.0,
            by.1,
            λ same. alone.1 ((alone_is c cell set is v).1 (subst (λ (i : ℕ). IsAlone c (line_cell c.size line i) v) same by.2)),
            by.2.alone,
          )
      | inr hidden ↦
          let u = hidden.0 in
          let here = (left_is c cell set is u).0 hidden.1 in
          inr (u, here.pair.low, here.pair.high, hidden.3, no_other c line k u t low h.tally here hidden.2.lone)
    ]

-- the values of a square's set that can't stay are those that the other squares strike
pub tally_struck : (c : CandidatesValue) (line k set kept struck : ℕ) (t : LineTally) → k < c.size → IsSetOf c (line_cell c.size line k) set
    → IsTallyOf line c t → IsKeptOf t set kept → ((n : ℕ) → has_number struck n ≡ (has_number set n && not (has_number kept n)))
    → (v : ℕ) → (has_number struck v ≡ true) ↔ IsLeftByRest c line k v
tally_struck c line k set kept struck t low is h keeps struck_is v =
    let rest = has_rest set kept struck v struck_is in
    let left = left_is c (line_cell c.size line k) set is v in (
      λ has.
          let both = rest.0 has in
          (goes_rest c line k set v t low is h (keeps.rest v both.0 (false_from_ne_true (has_number kept v) both.1)), left.0 both.0),
      λ by. rest.1 (left.1 by.1, λ has. (keeps.only v has).1 (rest_goes c line k set v t low is h by.0)),
    )

-- of a line that has a tally something is left of each square and of each number
pub tally_live : (c : CandidatesValue) (line : ℕ) (t : LineTally) → IsTallyOf line c t → IsLiveLine line c
tally_live c line t h = record {
  some = h.tally.some;
  placed = λ v low high. (h.tally.once v).0 (h.placed v low high);
}

-- where the values that are left of just one square are those that are alone in one, nothing is struck
pub quiet_tally : (c : CandidatesValue) (line : ℕ) (t : LineTally) → IsTallyOf line c t → IsQuietTally t → IsRestQuiet line c
quiet_tally c line t h quiet k v low pair by = false_from_ne_true (may_be c (line_cell c.size line k) v) (λ may.
    let here : IsLeft c (line_cell c.size line k) v = record { pair = pair; may = may } in
    elim by [
      | inl other ↦
          let there = alone_there c line other.0 v t h other.1 other.3 in
          let single = (h.tally.singles v).1 (other.0, other.1, there) in
          let lone = not-true (has_number t.twice v) (and_parts (has_number t.once v) (not (has_number t.twice v)) (quiet v ∙ single)).1 in
          other.2 (no_other c line k v t low h.tally here lone other.0 other.1 there.left)
      | inr last ↦
          let u = last.0 in
          let place = only_place c line k u t h last.1 last.2 last.4 in
          let single : has_number t.singles u ≡ true =
          sym (quiet u) ∙ and_from (has_number t.once u) (not (has_number t.twice u)) place.1.once (ap not place.1.lone) in
          let by = (h.tally.singles u).0 single in
          let same = last.4 by.0 by.1 by.2.left in
          last.3 (by.2.alone v (subst (λ (i : ℕ). IsLeft c (line_cell c.size line i) v) (sym same) here))
    ])

-- ---- the values that are kept

forced_from : (t : LineTally) (set forced u : ℕ) → IsForced t set forced → has_number forced u ≡ true → (has_number set u ≡ true) × IsHidden t u
forced_from t set forced u f e =
    let parts = and_parts _ _ (sym (f.is u) ∙ e) in
    let both = and_parts _ _ parts.0 in
    (both.0, record { once = both.1; lone = not-true (has_number t.twice u) parts.1 })

forced_to : (t : LineTally) (set forced u : ℕ) → IsForced t set forced → has_number set u ≡ true → IsHidden t u → has_number forced u ≡ true
forced_to t set forced u f has hidden =
    f.is u ∙ and_from _ _ (and_from _ _ has hidden.once) (ap not hidden.lone)

free_from : (t : LineTally) (set free v : ℕ) → IsFree t set free → has_number free v ≡ true
    → (has_number set v ≡ true) × (has_number t.singles v ≡ false)
free_from t set free v f e = grind (arith, nat_tests, and_parts, not-true)

free_to : (t : LineTally) (set free v : ℕ) → IsFree t set free → has_number set v ≡ true → has_number t.singles v ≡ false → has_number free v ≡ true
free_to t set free v f has none = f.is v ∙ and_from _ _ has (ap not none)

-- a value of a square's set that isn't free is alone in another square, so it can't stay
not_free : (t : LineTally) (set free v : ℕ) → ((v : ℕ) → IsSingle set v → ⊥) → IsFree t set free → has_number set v ≡ true
    → has_number free v ≡ false → Goes t set v
not_free t set free v many r has lacks = elim (cases_Bool (has_number t.singles v)) [
  | inl alone ↦ inl (alone, many v)
  | inr none ↦ absurd (both_ways (has_number free v) lacks (free_to t set free v r has none))
]

-- if one value of a set is left of no other square, only that can stay, and only if it is alone in none
pub kept_forced : (t : LineTally) (set forced free kept value : ℕ) → ((v : ℕ) → IsSingle set v → ⊥) → IsForced t set forced
    → IsFree t set free → IsSingle forced value → ((v : ℕ) → has_number kept v ≡ (has_number forced v && has_number free v))
    → IsKeptOf t set kept
kept_forced t set forced free kept value many f r one is = record {
  only = λ v e.
      let both = and_parts _ _ (sym (is v) ∙ e) in
      let parts = free_from t set free v r both.1 in (
        parts.0,
        λ goes. elim goes [
          | inl alone ↦ both_ways (has_number t.singles v) parts.1 alone.0
          | inr hidden ↦ hidden.3 (one.alone v both.0 ∙ sym (one.alone hidden.0 (forced_to t set forced hidden.0 f hidden.1 hidden.2)))
        ],
      );
  rest = λ v has lacks. elim (cases_Bool (has_number free v)) [
    | inl there ↦
        let from = forced_from t set forced value f one.has in
        inr (
          value,
          from.0,
          from.1,
          λ same.
              both_ways (has_number kept v) lacks
              (is v ∙ and_from _ _ (subst (λ (u : ℕ). has_number forced u ≡ true) (sym same) one.has) there),
        )
    | inr none ↦ not_free t set free v many r has none
  ];
}

-- if several values of a set are left of no other square, none of the set can stay
pub kept_nothing : (t : LineTally) (set forced kept : ℕ) → forced < 2 ^ 16 → IsForced t set forced
    → (v : ℕ) × (has_number forced v ≡ true) → ((v : ℕ) → IsSingle forced v → ⊥) → kept ≡ no_numbers → IsKeptOf t set kept
kept_nothing t set forced kept small f there two none = record {
  only = λ v e. absurd (both_ways (has_number kept v) (ap (λ (m : ℕ). has_number m v) none ∙ has_number-none v) e);
  rest = λ v has lacks. elim (cases_eq v there.0) [
    | inl same ↦
        let (u, apart, other) = another forced there.0 small there.1 two in
        let from = forced_from t set forced u f other in
        inr (u, from.0, from.1, λ e. apart (sym e ∙ same))
    | inr apart ↦ let from = forced_from t set forced there.0 f there.1 in inr (there.0, from.0, from.1, apart)
  ];
}

-- ---- one set counted

-- a set whose only value is alone in an earlier square clashes with it
pub clash_twice : (t : LineTally) (set single : ℕ) → ((v : ℕ) → (has_number single v ≡ true) ↔ IsSingle set v) → IsShared t.singles single → IsAloneBefore t set
clash_twice t set single s (value, before, here) = record { value = value; here = (s value).0 here; before = before }

-- the or of two truth values is true exactly if one of them is
either : (a b c : Bool) → c ≡ (a || b) → (c ≡ true) ↔ ((a ≡ true) ⊎ (b ≡ true))
either a b c is = grind (arith, nat_tests, or_cases, or_left, or_right)

-- the tally u counts one set more than t, if the set's only value, where it has one, was alone in none
pub counted_more : (t u : LineTally) (set single both : ℕ) → ((v : ℕ) → (has_number single v ≡ true) ↔ IsSingle set v) → (v : ℕ) × (has_number set v ≡ true)
    → (IsShared t.singles single → ⊥)
    → ((v : ℕ) → has_number u.once v ≡ (has_number t.once v || has_number set v))
    → ((v : ℕ) → has_number both v ≡ (has_number t.once v && has_number set v))
    → ((v : ℕ) → has_number u.twice v ≡ (has_number t.twice v || has_number both v))
    → ((v : ℕ) → has_number u.singles v ≡ (has_number t.singles v || has_number single v))
    → IsCounted t set u
counted_more t u set single both s some apart in_once in_both in_twice in_singles =
    let more = λ (v : ℕ). either (has_number t.twice v) (has_number both v) (has_number u.twice v) (in_twice v) in
    let alone = λ (v : ℕ). either (has_number t.singles v) (has_number single v) (has_number u.singles v) (in_singles v) in
    record {
      once = λ v. either (has_number t.once v) (has_number set v) (has_number u.once v) (in_once v);
      twice = λ v. (
        λ e. elim ((more v).0 e) [ inl old ↦ inl old | inr new ↦ inr (and_parts _ _ (sym (in_both v) ∙ new)) ],
        λ e. (more v).1 (elim e [ inl old ↦ inl old | inr new ↦ inr (in_both v ∙ and_from _ _ new.0 new.1) ]),
      );
      singles = λ v. (
        λ e. elim ((alone v).0 e) [ inl old ↦ inl old | inr new ↦ inr ((s v).0 new) ],
        λ e. (alone v).1 (elim e [ inl old ↦ inl old | inr new ↦ inr ((s v).1 new) ]),
      );
      some = some;
      fresh = λ v one. false_from_ne_true (has_number t.singles v) (λ e. apart (v, e, (s v).1 one));
    }

-- once square k has lost what can't stay, the first k + 1 squares have lost what the line strikes in them
pub square_struck : (line k set kept struck : ℕ) (t : LineTally) (first now next : CandidatesValue) → line < 2 * first.size → k < first.size
    → IsTallyOf line first t → Takes (λ cell v. (j : ℕ) × (j < k) × (cell ≡ line_cell first.size line j) × IsLeftByRest first line j v) first now
    → IsSetOf now (line_cell first.size line k) set → IsKeptOf t set kept
    → ((n : ℕ) → has_number struck n ≡ (has_number set n && not (has_number kept n))) → Strikes now next (line_cell first.size line k) struck
    → Takes (λ cell v. (j : ℕ) × (j < k + 1) × (cell ≡ line_cell first.size line j) × IsLeftByRest first line j v) first next
square_struck line k set kept struck t first now next on low tally taken values keeps struck_is strikes =
    let before = set_before (λ j v. IsLeftByRest first line j v) line k set first now on taken values in
    takes_next (line_cell first.size line) (λ j v. IsLeftByRest first line j v) k struck first now next taken strikes
    (λ v pair. tally_struck first line k set kept struck t low before tally keeps struck_is v)

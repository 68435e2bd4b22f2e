-- The numbers that aren't in view of a square, as sets.
use Rattle.std.proofs.Common.{◌≡◌, ◌≢◌, ◌↔◌, ℕ, ◌+◌, ◌*◌, ◌/◌, ◌%◌, ◌<◌, ◌≤◌, true, nat_le, ◌&&◌, ◌||◌, ◌==◌, not, inl, inr, ◌⊎◌, sym, ap, ◌∙◌, subst, arith}
use Rattle.std.proofs.lemmas.Bool.{both_ways, and_parts, and_from, or_left, or_right, cases_eq, cases_Bool, not_from_false, eq-eqb, ne_eqb, eqb-true, le-leb}
use Rattle.std.proofs.lemmas.Nat.{div_below, mod_below}
use Rattle.number_sets.specs.Sets.{has_number}
use Rattle.latin_board.specs.Squares.{GridValue, number_at}
use Rattle.latin_board.specs.Lines.{line_cell, ArePeers}
use Rattle.latin_board.proofs.LatinLines.{some_width, line_cell_of_row}
use Rattle.latin_board.proofs.PeerLines.{line_cell_of_column, line_peers}
use Rattle.trail_solver.specs.Candidates.{CandidatesValue}
use Rattle.line_steps.specs.Left.{all_of}
use Rattle.line_steps.specs.Takes.{Strikes, Takes}
use Rattle.line_steps.proofs.Takes.{takes_next}
use Rattle.step_chains.specs.Inner.Views.{IsUnseen, IsUnseenSet}

-- some square of the line has the number
abbrev pub StandsOn : GridValue → ℕ → ℕ → Type 0
StandsOn g line v = (k : ℕ) × (k < g.size) × (number_at g (line_cell g.size line k) ≡ v)

-- of a filled square all other numbers are out of view
pub unseen_filled : (g : GridValue) (cell all one result number : ℕ) → number ≡ number_at g cell → number ≢ 0
    → ((k : ℕ) → has_number all k ≡ (nat_le 1 k && nat_le k g.size)) → ((k : ℕ) → has_number one k ≡ (k == number))
    → ((n : ℕ) → has_number result n ≡ (has_number all n && not (has_number one n))) → IsUnseenSet g cell result
unseen_filled g cell all one result number is some members single rest = λ v pair. grind (arith, and_parts, both_ways, eq-eqb, and_from, nat_le, le-leb, not_from_false, ne_eqb)

-- a peer stands on the square's row or column
peer_on : (w peer cell : ℕ) → ArePeers w peer cell
    → ((k : ℕ) × (k < w) × (line_cell w (cell / w) k ≡ peer)) ⊎ ((k : ℕ) × (k < w) × (line_cell w (w + cell % w) k ≡ peer))
peer_on w peer cell h =
    let some = some_width w peer h.first in
    elim h.shared [
      | inl rows ↦ inl (
        peer % w,
        mod_below peer w some,
        ap (λ (row : ℕ). line_cell w row (peer % w)) (sym rows) ∙ line_cell_of_row w peer h.first,
      )
      | inr columns ↦ inr (
        peer / w,
        div_below peer w w some h.first,
        ap (λ (column : ℕ). line_cell w (w + column) (peer / w)) (sym columns) ∙ line_cell_of_column w peer,
      )
    ]

-- if a number stands on a line of an empty square, a peer of the square has it
on_line_peer : (g : GridValue) (cell line at v : ℕ) → line < 2 * g.size → at < g.size → line_cell g.size line at ≡ cell → number_at g cell ≡ 0 → 1 ≤ v
    → StandsOn g line v → (peer : ℕ) × ArePeers g.size peer cell × (number_at g peer ≡ v)
on_line_peer g cell line at v line_is at_is here blank low h = grind (arith, cases_eq, line_peers)

-- of an empty square the numbers of its row and column are out of view
pub unseen_empty : (g : GridValue) (cell first second row column result : ℕ) → cell < g.size * g.size → number_at g cell ≡ 0
    → first ≡ cell / g.size → second ≡ g.size + cell % g.size → ((v : ℕ) → (has_number row v ≡ true) ↔ StandsOn g first v)
    → ((v : ℕ) → (has_number column v ≡ true) ↔ StandsOn g second v)
    → ((n : ℕ) → has_number result n ≡ (has_number row n || has_number column n)) → IsUnseenSet g cell result
unseen_empty g cell first second row column result inside blank first_is second_is on_row on_column either = λ v pair.
    let w = g.size in
    let some = some_width w cell inside in
    let up : cell / w < w = div_below cell w w some inside in
    let side : cell % w < w = mod_below cell w some in (
      λ has. inr (
        blank,
        elim (cases_Bool (has_number row v)) [
          | inl in_row ↦
              let there : StandsOn g (cell / w) v = subst (λ (l : ℕ). StandsOn g l v) first_is ((on_row v).0 in_row) in
              on_line_peer g cell (cell / w) (cell % w) v (omega (arith, up)) side (line_cell_of_row w cell inside) blank pair.low there
          | inr lacks ↦
              let in_column : has_number column v ≡ true = elim (cases_Bool (has_number column v)) [
                | inl is ↦ is
                | inr absent ↦ absurd (both_ways (has_number result v) (either v ∙ ap (λ b. b || has_number column v) lacks ∙ absent) has)
              ] in
              let there : StandsOn g (w + cell % w) v = subst (λ (l : ℕ). StandsOn g l v) second_is ((on_column v).0 in_column) in
              on_line_peer g cell (w + cell % w) (cell / w) v (omega (arith, side)) up (line_cell_of_column w cell) blank pair.low there
        ],
      ),
      λ h. elim h [
        | inl filled ↦ absurd (filled.0 blank)
        | inr empty ↦
            let (peer, peers, is) = empty.1 in
            elim (peer_on w peer cell peers) [
              | inl on ↦
                  let there : StandsOn g first v =
                  subst (λ (l : ℕ). StandsOn g l v) (sym first_is) (on.0, on.1, ap (number_at g) on.2 ∙ is) in
                  either v ∙ or_left (has_number row v) (has_number column v) ((on_row v).1 there)
              | inr on ↦
                  let there : StandsOn g second v =
                  subst (λ (l : ℕ). StandsOn g l v) (sym second_is) (on.0, on.1, ap (number_at g) on.2 ∙ is) in
                  either v ∙ or_right (has_number row v) (has_number column v) ((on_column v).1 there)
            ]
      ],
    )

-- with one square more of a line, its number is added to those found
pub number_added : (g : GridValue) (line k number found one result : ℕ) → number ≡ number_at g (line_cell g.size line k)
    → ((v : ℕ) → (has_number found v ≡ true) ↔ ((j : ℕ) × (j < k) × (number_at g (line_cell g.size line j) ≡ v)))
    → ((v : ℕ) → has_number one v ≡ (v == number)) → ((v : ℕ) → has_number result v ≡ (has_number found v || has_number one v))
    → (v : ℕ) → (has_number result v ≡ true) ↔ ((j : ℕ) × (j < k + 1) × (number_at g (line_cell g.size line j) ≡ v))
number_added g line k number found one result is before single either = λ v. (
  λ has. elim (cases_Bool (has_number found v)) [
    | inl old ↦ let h = (before v).0 old in (h.0, omega (arith, h.1), h.2)
    | inr lacks ↦ grind (arith, cases_Bool, both_ways, eqb-true)
  ],
  λ h. elim (cases_eq h.0 k) [
    | inl same ↦
        let here : v ≡ number = sym h.2 ∙ ap (λ (j : ℕ). number_at g (line_cell g.size line j)) same ∙ sym is in
        either v ∙ or_right (has_number found v) (has_number one v) (single v ∙ eq-eqb v number here)
    | inr other ↦ either v ∙ or_left (has_number found v) (has_number one v) ((before v).1 (h.0, omega (arith, h.1, other), h.2))
  ],
)

-- the values that aren't in view of one square more are gone
pub unseen_gone : (g : GridValue) (cell set : ℕ) (b c : CandidatesValue)
    → Takes (λ at v. (j : ℕ) × (j < cell) × (at ≡ j) × IsUnseen g j v) (all_of g.size) b → Strikes b c cell set → IsUnseenSet g cell set
    → Takes (λ at v. (j : ℕ) × (j < cell + 1) × (at ≡ j) × IsUnseen g j v) (all_of g.size) c
unseen_gone g cell set b c before struck is =
    takes_next (λ j. j) (IsUnseen g) cell set (all_of g.size) b c before struck (λ v pair. is v pair)

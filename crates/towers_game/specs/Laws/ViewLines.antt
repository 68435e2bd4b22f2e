-- The line that an edge place looks along, square by square.
use Rattle.std.proofs.lemmas.Bool.Decides.{nat_tests}
use Rattle.std.proofs.Common.{◌≡◌, ℕ, ◌+◌, ◌-◌, ◌*◌, ◌<◌, List, length, map, reverse, sym, ap, ◌∙◌, inl, inr, arith, slice_index}
use Rattle.std.specs.List.{range_with_len}
use Rattle.std.proofs.lemmas.Bool.{lt-ltb, le-ltb, cases_lt}
use Rattle.std.proofs.lemmas.Grind.{same_number_lists}
use Rattle.std.proofs.lemmas.List.{get_or-reverse, length-reverse}
use Rattle.std.proofs.lemmas.List.FromFn.{length-map-range_with_len, get_or-map-range_with_len}
use Rattle.latin_board.specs.Squares.{GridValue, number_at}
use Rattle.latin_board.specs.Lines.{line_cell, line_of}
use Rattle.latin_board.proofs.LatinLines.{line_of-row, line_of-column, length-line_of, get_or-line_of}
use Rattle.line_steps.specs.Views.{line_from, view_cell, view_line, front_place}

-- the numbers of the squares from a place
abbrev pub numbers_from : GridValue → ℕ → ℕ → List ℕ
numbers_from g place n = map (λ k. number_at g (view_cell g.size place k)) (range_with_len 0 n)

-- a line that is read backwards has the numbers of its squares from the last one on
back_along : (g : GridValue) (line : ℕ)
    → reverse (line_of g line) ≡ map (λ k. number_at g (line_cell g.size line (g.size - 1 - k))) (range_with_len 0 g.size)
back_along g line =
    let len = length-line_of g line in
    let both = length-reverse (line_of g line) in
    let back = λ (k : ℕ). number_at g (line_cell g.size line (g.size - 1 - k)) in
    same_number_lists _ _ (both ∙ len ∙ sym (length-map-range_with_len back 0 g.size))
    (λ k inside.
    let within : k < g.size = omega (arith, both, len) in
    let here : length (line_of g line) - 1 - k ≡ g.size - 1 - k = omega (arith, len) in
    get_or-reverse (line_of g line) k 0 (omega (arith, len))
    ∙ ap (λ j. slice_index (line_of g line) j) here
    ∙ get_or-line_of g line (g.size - 1 - k) (omega arith)
    ∙ sym (get_or-map-range_with_len back 0 g.size k k 0 within (omega arith)))

-- the line from a place is the numbers in the squares from there, in turn
pub line_from-numbers : (g : GridValue) (place : ℕ) → place < 4 * g.size → line_from g place ≡ numbers_from g place g.size
line_from-numbers g place inside =
    let w = g.size in
    elim (cases_lt place w) [
      | inl top ↦ rw (lt-ltb place w top) (sym (line_of-column g place))
      | inr below ↦ elim (cases_lt place (2 * w)) [
        | inl bottom ↦
            let split : w + (place - w) ≡ place = omega arith in
            rw (le-ltb place w below, lt-ltb place (2 * w) bottom)
            (ap reverse (sym (line_of-column g (place - w)) ∙ ap (line_of g) split) ∙ back_along g place)
        | inr beside ↦ elim (cases_lt place (3 * w)) [
          | inl left ↦
              rw (le-ltb place w below, le-ltb place (2 * w) beside, lt-ltb place (3 * w) left)
              (sym (line_of-row g (place - 2 * w) (omega arith)))
          | inr right ↦
              rw (le-ltb place w below, le-ltb place (2 * w) beside, le-ltb place (3 * w) right)
              (ap reverse (sym (line_of-row g (place - 3 * w) (omega arith))) ∙ back_along g (place - 3 * w))
        ]
      ]
    ]

-- the k-th entry of the line from a place is the number in the k-th square from there
pub view_number : (g : GridValue) (place k : ℕ) → place < 4 * g.size → k < g.size
    → slice_index (line_from g place) k ≡ number_at g (view_cell g.size place k)
view_number g place k inside low = grind (arith, nat_tests, line_from-numbers, get_or-map-range_with_len)

-- the place before a line's first square looks along that line
pub front_line : (w line : ℕ) → line < 2 * w → view_line w (front_place w line) ≡ line
front_line w line inside = grind (arith, nat_tests)

-- Boards as the texts of marks, done clues and the status tell them.
use Rattle.std.proofs.Common.{◌≡◌, ◌≢◌, ℕ, zero, suc, ◌+◌, ◌-◌, ◌*◌, ◌/◌, ◌%◌, ◌<◌, ◌≤◌, ◌==◌, ℤ, pos, negsuc, Bool, true, false, cond, if◌then◌else◌, List, [], ◌∷◌, ◌++◌, length, map, filter, get_or, codes, Option, Some, None, is_some, refl, sym, ap, ◌∙◌, subst, arith, inl, inr}
use Rattle.std.specs.List.{range_with_len, flat_map}
use Rattle.std.proofs.lemmas.Bool.{cases_eq, cases_lt, eq-eqb, lt-ltb, le-ltb}
use Rattle.std.proofs.lemmas.Grind.{same_number_lists}
use Rattle.std.proofs.lemmas.Nat.{div-add-mod'}
use Rattle.number_sets.specs.Sets.{has_number}
use Rattle.number_sets.proofs.Members.{same_set}
use Rattle.latin_board.specs.Boards.{BoardValue, IsBoard, marks_at, is_done}
use Rattle.latin_board.specs.Marks.{IsMarkSet}
use Rattle.latin_board.specs.Edges.{edge_place, edge_xy}
use Rattle.latin_board.proofs.EdgePlaces.{place_leads_back}
use Rattle.byte_text.specs.Bytes.{line_feed, space, comma, colon, digit, capital_d}
use Rattle.byte_text.specs.Cuts.{Lacks}
use Rattle.byte_text.specs.Decimals.{is_digit}
use Rattle.byte_text.proofs.DecimalLaws.{lacks_decimal}
use Rattle.play_midend.specs.declared.moves.Move.{Move}
use Rattle.play_midend.specs.declared.moves.Move.TheVariants.{Done}
use Rattle.play_midend.specs.MoveTexts.{coordinate_text, IsCoordinate, move_text}
use Rattle.play_midend.proofs.MoveTextsRead.{same_move}
use Rattle.line_replies.specs.BoardTexts.{lines_or, mark_digits, marks_line, marks_lines, place_text, done_line, done_lines}
use Rattle.line_replies.proofs.OptionalLines.{line_or_none, LacksIn, empty_list, lines_lack, lines_or_same, each_line, lacks_on}

-- ---- marks

-- the content of the line of a square, if it has marks
abbrev pub marks_content : BoardValue → ℕ → Option (List ℕ)
marks_content b cell =
    cond (length (mark_digits (marks_at b cell)) == 0) None
    (Some (digit (cell % b.size) ∷ comma ∷ digit (cell / b.size) ∷ colon ∷ mark_digits (marks_at b cell)))

-- the line of a square is its content as a line, or nothing
marks_line_is : (b : BoardValue) (cell : ℕ) → marks_line b cell ≡ line_or_none (marks_content b cell)
marks_line_is b cell =
    let digits = mark_digits (marks_at b cell) in
    elim (length digits == 0) as (λ t. cond t [] (digit (cell % b.size) ∷ comma ∷ digit (cell / b.size) ∷ colon ∷ (digits ++ line_feed ∷ []))
    ≡ line_or_none (cond t None (Some (digit (cell % b.size) ∷ comma ∷ digit (cell / b.size) ∷ colon ∷ digits)))) [
      | true ↦ refl
      | false ↦ refl
    ]

-- digits lack a byte that is no digit
digits_lack : (c : ℕ) (ns : List ℕ) → ((n : ℕ) → digit n ≢ c) → Lacks c (map digit ns)
digits_lack c [] apart = tt
digits_lack c (n ∷ ns) apart = (apart n, digits_lack c ns apart)

-- the content of a line of marks lacks a byte that is no digit, comma or colon
content_lacks : (c : ℕ) (b : BoardValue) (cell : ℕ) → ((n : ℕ) → digit n ≢ c) → comma ≢ c → colon ≢ c → LacksIn c (marks_content b cell)
content_lacks c b cell apart no_comma no_colon =
    let digits = mark_digits (marks_at b cell) in
    elim (length digits == 0) as (λ t. LacksIn c (cond t None (Some (digit (cell % b.size) ∷ comma ∷ digit (cell / b.size) ∷ colon ∷ digits)))) [
      | true ↦ tt
      | false ↦ (
        apart (cell % b.size),
        (no_comma, (apart (cell / b.size), (no_colon, digits_lack c (filter (has_number (marks_at b cell)) (range_with_len 1 9)) apart))),
      )
    ]

no_feed : (b : BoardValue) (cell : ℕ) → LacksIn line_feed (marks_content b cell)
no_feed b cell = content_lacks line_feed b cell (λ n e. absurd (omega (arith, e))) (λ e. absurd (omega (arith, e))) (λ e. absurd (omega (arith, e)))

no_space : (b : BoardValue) (cell : ℕ) → LacksIn space (marks_content b cell)
no_space b cell = content_lacks space b cell (λ n e. absurd (omega (arith, e))) (λ e. absurd (omega (arith, e))) (λ e. absurd (omega (arith, e)))

marks_some : (b : BoardValue) (cell : ℕ) (content : List ℕ) → marks_content b cell ≡ Some content
    → content ≡ digit (cell % b.size) ∷ comma ∷ digit (cell / b.size) ∷ colon ∷ mark_digits (marks_at b cell)
marks_some b cell content =
    let whole = digit (cell % b.size) ∷ comma ∷ digit (cell / b.size) ∷ colon ∷ mark_digits (marks_at b cell) in
    elim (length (mark_digits (marks_at b cell)) == 0) as (λ t. cond t None (Some whole) ≡ Some content → content ≡ whole) [
      | true ↦ λ is. cc
      | false ↦ λ is. cc
    ]

-- lines of marks with the same content are those of one square
marks_apart : (w : ℕ) (b c : BoardValue) → b.size ≡ w → c.size ≡ w → (j k : ℕ) (content : List ℕ) → marks_content b j ≡ Some content
    → marks_content c k ≡ Some content → j ≡ k
marks_apart w b c b_size c_size j k content one other =
    let same = sym (marks_some b j content one) ∙ marks_some c k content other in
    let column : digit (j % b.size) ≡ digit (k % c.size) = cc in
    let row : digit (j / b.size) ≡ digit (k / c.size) = cc in
    let columns : j % b.size ≡ k % c.size = omega (arith, column) in
    let rows : j / b.size ≡ k / c.size = omega (arith, row) in
    let across : j % w ≡ k % w = sym (ap (λ n. j % n) b_size) ∙ columns ∙ ap (λ n. k % n) c_size in
    let down : j / w ≡ k / w = sym (ap (λ n. j / n) b_size) ∙ rows ∙ ap (λ n. k / n) c_size in
    sym (div-add-mod' j w) ∙ ap (λ n. n * w + j % w) down ∙ ap (λ n. k / w * w + n) across ∙ div-add-mod' k w

-- the digits of the marks in a line's content
abbrev pub digits_in : Option (List ℕ) → List ℕ
digits_in (Some (x ∷ first ∷ y ∷ second ∷ digits)) = digits
digits_in _ = []

-- the digits in the content of a square's line are those of its marks
digits_of : (b : BoardValue) (cell : ℕ) → digits_in (marks_content b cell) ≡ mark_digits (marks_at b cell)
digits_of b cell =
    let digits = mark_digits (marks_at b cell) in
    elim (length digits == 0) as (λ t. (length digits == 0) ≡ t
    → digits_in (cond t None (Some (digit (cell % b.size) ∷ comma ∷ digit (cell / b.size) ∷ colon ∷ digits))) ≡ digits) [
      | true ↦ λ none. sym (empty_list digits none)
      | false ↦ λ some. refl
    ] refl

-- no number that passes the test, as a digit, is below the first number of the range
first_digit : (q : ℕ → Bool) (a n x : ℕ) (rest : List ℕ) → map digit (filter q (range_with_len a n)) ≡ digit x ∷ rest → a ≤ x
first_digit q a zero x rest same = cc
first_digit q a (suc n) x rest same =
    elim (q a) as (λ t. map digit (cond t (a ∷ filter q (range_with_len (a + 1) n)) (filter q (range_with_len (a + 1) n))) ≡ digit x ∷ rest → a ≤ x) [
      | true ↦ λ e. let head : digit a ≡ digit x = cc in omega (arith, head)
      | false ↦ λ e. let low = first_digit q (a + 1) n x rest e in omega (arith, low)
    ] same

-- if the numbers of a range that pass two tests have the same digits, the tests agree along the range
digits_tell : (p q : ℕ → Bool) (a n : ℕ) → map digit (filter p (range_with_len a n)) ≡ map digit (filter q (range_with_len a n)) → (v : ℕ)
    → a ≤ v → v < a + n → p v ≡ q v
digits_tell p q a zero same v low high = absurd (omega arith)
digits_tell p q a (suc n) same v low high =
    elim (p a) as (λ s. p a ≡ s → map digit (cond s (a ∷ filter p (range_with_len (a + 1) n)) (filter p (range_with_len (a + 1) n)))
    ≡ map digit (filter q (range_with_len a (suc n))) → p v ≡ q v) [
      | true ↦ λ p_is first.
          elim (q a) as (λ t. q a ≡ t → map digit (a ∷ filter p (range_with_len (a + 1) n))
          ≡ map digit (cond t (a ∷ filter q (range_with_len (a + 1) n)) (filter q (range_with_len (a + 1) n))) → p v ≡ q v) [
            | true ↦ λ q_is second.
                let tails : map digit (filter p (range_with_len (a + 1) n)) ≡ map digit (filter q (range_with_len (a + 1) n)) = cc in
                by_place p q a n v low high (p_is ∙ sym q_is) (λ above. digits_tell p q (a + 1) n tails v above (omega arith))
            | false ↦ λ q_is second.
                let above = first_digit q (a + 1) n a (map digit (filter p (range_with_len (a + 1) n))) (sym second) in absurd (omega (arith, above))
          ] refl first
      | false ↦ λ p_is first.
          elim (q a) as (λ t. q a ≡ t → map digit (filter p (range_with_len (a + 1) n))
          ≡ map digit (cond t (a ∷ filter q (range_with_len (a + 1) n)) (filter q (range_with_len (a + 1) n))) → p v ≡ q v) [
            | true ↦ λ q_is second.
                let above = first_digit p (a + 1) n a (map digit (filter q (range_with_len (a + 1) n))) second in absurd (omega (arith, above))
            | false ↦ λ q_is second.
                by_place p q a n v low high (p_is ∙ sym q_is) (λ above. digits_tell p q (a + 1) n second v above (omega arith))
          ] refl first
    ] refl same
  where
    by_place : (p q : ℕ → Bool) (a n v : ℕ) → a ≤ v → v < a + suc n → p a ≡ q a → (a + 1 ≤ v → p v ≡ q v) → p v ≡ q v
    by_place p q a n v low high here later = elim (cases_eq v a) [
      | inl same ↦ subst (λ (k : ℕ). p k ≡ q k) (sym same) here
      | inr other ↦ later (omega (arith, other))
    ]

-- marks with the same digits are the same
digits_same : (w one other : ℕ) → w ≤ 9 → IsMarkSet w one → IsMarkSet w other → mark_digits one ≡ mark_digits other → one ≡ other
digits_same w one other small first second same = same_set one other each
  where
    within : (v : ℕ) → 1 ≤ v → v ≤ 9 → has_number one v ≡ has_number other v
    within v low high = digits_tell (has_number one) (has_number other) 1 9 same v low (omega arith)

    each : (v : ℕ) → has_number one v ≡ has_number other v
    each v =
        elim (has_number one v) as (λ s. has_number one v ≡ s → s ≡ has_number other v) [
          | true ↦ λ is. let at = first.each v is in sym is ∙ within v at.0 (omega (arith, at.1))
          | false ↦ λ is.
              elim (has_number other v) as (λ t. has_number other v ≡ t → false ≡ t) [
                | true ↦ λ there. let at = second.each v there in sym is ∙ within v at.0 (omega (arith, at.1)) ∙ there
                | false ↦ λ there. refl
              ] refl
        ] refl

-- boards of which the same lines of marks are told have the same marks
pub marks_told : (w : ℕ) (b c : BoardValue) → IsBoard b → IsBoard c → b.size ≡ w → c.size ≡ w → marks_lines b ≡ marks_lines c → b.marks ≡ c.marks
marks_told w b c first second b_size c_size same =
    same_number_lists b.marks c.marks (first.mark_count ∙ ap (λ n. n * n) (b_size ∙ sym c_size) ∙ sym second.mark_count) each
  where
    lines : BoardValue → List ℕ
    lines d = flat_map (λ k. line_or_none (marks_content d k)) (range_with_len 0 (w * w))

    told : (d : BoardValue) → d.size ≡ w → marks_lines d ≡ lines_or (codes "no marks") (lines d)
    told d size =
        ap (λ n. lines_or (codes "no marks") (flat_map (marks_line d) (range_with_len 0 (n * n)))) size
        ∙ (λ i. lines_or (codes "no marks") (flat_map (λ k. marks_line_is d k i) (range_with_len 0 (w * w))))

    lack : (d : BoardValue) → Lacks space (lines d)
    lack d = lines_lack space (λ e. absurd (omega (arith, e))) (marks_content d) 0 (w * w) (λ k below. no_space d k)

    all : lines b ≡ lines c
    all = lines_or_same space (codes "no marks") (lines b) (lines c) (λ lacks. lacks.1.1.0 refl) (lack b) (lack c)
        (sym (told b b_size) ∙ same ∙ told c c_size)

    content : (k : ℕ) → k < w * w → marks_content b k ≡ marks_content c k
    content k inside =
        each_line (marks_content b) (marks_content c) (w * w) (λ j below. no_feed b j) (λ j below. no_feed c j)
        (λ i j text i_in j_in one other. marks_apart w b c b_size c_size i j text one other) 0 (w * w) (omega arith) all k (omega arith) (omega arith)

    each : (k : ℕ) → k < length b.marks → get_or b.marks k 0 ≡ get_or c.marks k 0
    each k inside =
        let count = first.mark_count in
        let more = second.mark_count in
        let top : b.size * b.size ≡ w * w = ap (λ n. n * n) b_size in
        let other_top : c.size * c.size ≡ w * w = ap (λ n. n * n) c_size in
        let high = first.is_grid.largest in
        let digits : mark_digits (marks_at b k) ≡ mark_digits (marks_at c k) =
        sym (digits_of b k) ∙ ap digits_in (content k (omega (arith, inside, count, top))) ∙ digits_of c k in
        digits_same w (marks_at b k) (marks_at c k) (omega (arith, high, b_size))
        (subst (λ (n : ℕ). IsMarkSet n (get_or b.marks k 0)) b_size (first.marks_within k 0 inside))
        (subst (λ (n : ℕ). IsMarkSet n (get_or c.marks k 0)) c_size (second.marks_within k 0 (omega (arith, inside, count, more, top, other_top))))
        digits

-- ---- done clues

-- what holds of the places of each of the four sides holds of every place
by_side : (P : ℕ → Type 0) (w place : ℕ) → place < 4 * w → ((x : ℕ) → x < w → P x) → ((x : ℕ) → x < w → P (w + x))
    → ((y : ℕ) → y < w → P (2 * w + y)) → ((y : ℕ) → y < w → P (3 * w + y)) → P place
by_side P w place inside top bottom left right = elim (cases_lt place w) [
  | inl first ↦ top place first
  | inr after ↦ elim (cases_lt place (2 * w)) [
    | inl second ↦
        let at : w + (place - w) ≡ place = omega (arith, after) in
        subst P at (bottom (place - w) (omega (arith, after, second)))
    | inr later ↦ elim (cases_lt place (3 * w)) [
      | inl third ↦
          let at : 2 * w + (place - 2 * w) ≡ place = omega (arith, later) in
          subst P at (left (place - 2 * w) (omega (arith, later, third)))
      | inr last ↦
          let at : 3 * w + (place - 3 * w) ≡ place = omega (arith, last) in
          subst P at (right (place - 3 * w) (omega (arith, last, inside)))
    ]
  ]
]

-- the coordinates of a place lead back to it, and each of them has a text
record IsTold (w place : ℕ) : Type 0 where
  pub back : edge_place w (edge_xy w place).0 (edge_xy w place).1 ≡ Some place
  pub first : IsCoordinate (edge_xy w place).0
  pub second : IsCoordinate (edge_xy w place).1

told_from : (w place : ℕ) (x y : ℤ) → edge_place w x y ≡ Some place → IsCoordinate x → IsCoordinate y → IsTold w place
told_from w place x y at x_is y_is =
    let there = place_leads_back w x y place at in
    record {
      back = subst (λ (q : ℤ × ℤ). edge_place w q.0 q.1 ≡ Some place) (sym there) at;
      first = subst (λ (q : ℤ × ℤ). IsCoordinate q.0) (sym there) x_is;
      second = subst (λ (q : ℤ × ℤ). IsCoordinate q.1) (sym there) y_is;
    }

-- each place of the edge is told by its coordinates
place_is_told : (w place : ℕ) → w ≤ 9 → place < 4 * w → IsTold w place
place_is_told w place small inside = by_side (IsTold w) w place inside
    (λ x low. told_from w x (pos x) (negsuc zero) (rw (lt-ltb x w low) refl) (omega (arith, low)) refl)
    (λ x low. told_from w (w + x) (pos x) (pos w) (rw (lt-ltb x w low, eq-eqb w w refl) refl) (omega (arith, low)) (omega arith))
    (λ y low. told_from w (2 * w + y) (negsuc zero) (pos y) (rw (lt-ltb y w low) refl) refl (omega (arith, low)))
    (λ y low. told_from w (3 * w + y) (pos w) (pos y) (rw (le-ltb w w (omega arith), lt-ltb y w low, eq-eqb w w refl) refl)
    (omega arith) (omega (arith, low)))

-- the place of the clue that a move marks as done, if it is such a move
abbrev pub place_of_move : ℕ → Move → Option ℕ
place_of_move w (Done x y) = edge_place w x y
place_of_move w _ = None

-- places with the same text are the same
place_apart : (w j k : ℕ) → w ≤ 9 → j < 4 * w → k < 4 * w → place_text w j ≡ place_text w k → j ≡ k
place_apart w j k small j_in k_in same =
    let one = place_is_told w j small j_in in
    let other = place_is_told w k small k_in in
    let m = Done (edge_xy w j).0 (edge_xy w j).1 in
    let n = Done (edge_xy w k).0 (edge_xy w k).1 in
    let moves : m ≡ n = same_move (move_text m) m n (record { writable = (one.first, one.second); spelled = refl })
    (record { writable = (other.first, other.second); spelled = ap (λ text. capital_d ∷ text) same }) in
    let places : Some j ≡ Some k = sym one.back ∙ ap (place_of_move w) moves ∙ other.back in
    cc

coordinate_lacks : (c : ℕ) (z : ℤ) → IsCoordinate z → is_digit c ≡ false → 45 ≢ c → Lacks c (coordinate_text z)
coordinate_lacks c (pos n) of other dashed = lacks_decimal c n (omega (arith, of)) other
coordinate_lacks c (negsuc n) of other dashed = (dashed, lacks_decimal c (n + 1) (omega (arith, of)) other)

-- the text of a place lacks a byte that is no digit, sign or comma
place_lacks : (c w place : ℕ) → w ≤ 9 → place < 4 * w → is_digit c ≡ false → 45 ≢ c → comma ≢ c → Lacks c (place_text w place)
place_lacks c w place small inside other dashed no_comma =
    let told = place_is_told w place small inside in
    lacks_on c (coordinate_text (edge_xy w place).0) (comma ∷ coordinate_text (edge_xy w place).1)
    (coordinate_lacks c (edge_xy w place).0 told.first other dashed)
    (no_comma, coordinate_lacks c (edge_xy w place).1 told.second other dashed)

-- the content of the line of a place, if its clue is done
abbrev pub done_content : ℕ → BoardValue → ℕ → Option (List ℕ)
done_content w b place = cond (is_done b place) (Some (place_text w place)) None

-- the line of a place is its content as a line, or nothing
done_line_is : (w : ℕ) (b : BoardValue) (place : ℕ) → b.size ≡ w → done_line b place ≡ line_or_none (done_content w b place)
done_line_is w b place size =
    elim (is_done b place) as (λ t. (if t then place_text b.size place ++ line_feed ∷ [] else []) ≡ line_or_none (cond t (Some (place_text w place)) None)) [
      | true ↦ ap (λ n. place_text n place ++ line_feed ∷ []) size
      | false ↦ refl
    ]

-- the content of the line of a place lacks a byte that is no digit, sign or comma
done_lacks : (c w : ℕ) (b : BoardValue) (place : ℕ) → w ≤ 9 → place < 4 * w → is_digit c ≡ false → 45 ≢ c → comma ≢ c
    → LacksIn c (done_content w b place)
done_lacks c w b place small inside other dashed no_comma =
    elim (is_done b place) as (λ t. LacksIn c (cond t (Some (place_text w place)) None)) [
      | true ↦ place_lacks c w place small inside other dashed no_comma
      | false ↦ tt
    ]

-- the content of the line of a place is the text of the place
done_some : (w : ℕ) (b : BoardValue) (place : ℕ) (content : List ℕ) → done_content w b place ≡ Some content → content ≡ place_text w place
done_some w b place content =
    elim (is_done b place) as (λ t. cond t (Some (place_text w place)) None ≡ Some content → content ≡ place_text w place) [
      | true ↦ λ is. cc
      | false ↦ λ is. cc
    ]

-- the line of a place has content if its clue is done
done_is : (w : ℕ) (b : BoardValue) (place : ℕ) → is_some (done_content w b place) ≡ is_done b place
done_is w b place =
    elim (is_done b place) as (λ t. is_some (cond t (Some (place_text w place)) None) ≡ t) [
      | true ↦ refl
      | false ↦ refl
    ]

-- boards of which the same lines of done clues are told have the same done clues
pub done_told : (w : ℕ) (b c : BoardValue) → IsBoard b → IsBoard c → b.size ≡ w → c.size ≡ w → done_lines b ≡ done_lines c → b.done ≡ c.done
done_told w b c first second b_size c_size same = same_set b.done c.done each
  where
    small : w ≤ 9
    small = let high = first.is_grid.largest in omega (arith, high, b_size)

    lines : BoardValue → List ℕ
    lines d = flat_map (λ k. line_or_none (done_content w d k)) (range_with_len 0 (4 * w))

    told : (d : BoardValue) → d.size ≡ w → done_lines d ≡ lines_or (codes "no done clues") (lines d)
    told d size =
        ap (λ n. lines_or (codes "no done clues") (flat_map (done_line d) (range_with_len 0 (4 * n)))) size
        ∙ (λ i. lines_or (codes "no done clues") (flat_map (λ k. done_line_is w d k size i) (range_with_len 0 (4 * w))))

    lack : (d : BoardValue) → Lacks space (lines d)
    lack d = lines_lack space (λ e. absurd (omega (arith, e))) (done_content w d) 0 (4 * w)
        (λ k below. done_lacks space w d k small (omega (arith, below)) refl (λ e. absurd (omega (arith, e))) (λ e. absurd (omega (arith, e))))

    plain : (d : BoardValue) (k : ℕ) → k < 4 * w → LacksIn line_feed (done_content w d k)
    plain d k inside = done_lacks line_feed w d k small inside refl (λ e. absurd (omega (arith, e))) (λ e. absurd (omega (arith, e)))

    all : lines b ≡ lines c
    all = lines_or_same space (codes "no done clues") (lines b) (lines c) (λ lacks. lacks.1.1.0 refl) (lack b) (lack c)
        (sym (told b b_size) ∙ same ∙ told c c_size)

    content : (k : ℕ) → k < 4 * w → done_content w b k ≡ done_content w c k
    content k inside =
        each_line (done_content w b) (done_content w c) (4 * w) (plain b) (plain c)
        (λ i j text i_in j_in one other. place_apart w i j small i_in j_in (sym (done_some w b i text one) ∙ done_some w c j text other))
        0 (4 * w) (omega arith) all k (omega arith) (omega arith)

    within : (k : ℕ) → k < 4 * w → is_done b k ≡ is_done c k
    within k inside = sym (done_is w b k) ∙ ap is_some (content k inside) ∙ done_is w c k

    each : (k : ℕ) → has_number b.done k ≡ has_number c.done k
    each k =
        elim (has_number b.done k) as (λ s. has_number b.done k ≡ s → s ≡ has_number c.done k) [
          | true ↦ λ is. let at = first.done_within k is in sym is ∙ within k (omega (arith, at, b_size))
          | false ↦ λ is.
              elim (has_number c.done k) as (λ t. has_number c.done k ≡ t → false ≡ t) [
                | true ↦ λ there. let at = second.done_within k there in sym is ∙ within k (omega (arith, at, c_size)) ∙ there
                | false ↦ λ there. refl
              ] refl
        ] refl

-- ---- the flags

-- the word of the status, which tells both flags where help comes with completion
abbrev pub flag_word : Bool → Bool → List ℕ
flag_word cheated completed = if cheated then codes "helped" else (if completed then codes "solved" else codes "playing")

-- if two texts begin with the words for flags and are the same, so are the flags
pub flags_told : (h s : Bool) (x : List ℕ) (k t : Bool) (y : List ℕ) → (h ≡ true → s ≡ true) → (k ≡ true → t ≡ true)
    → flag_word h s ++ x ≡ flag_word k t ++ y → (h ≡ k) × (s ≡ t)
flags_told true s x true t y first second same = (refl, first refl ∙ sym (second refl))
flags_told true s x false true y first second same =
    let e = ap (λ xs. get_or xs 0 0) same in absurd (omega (arith, e))
flags_told true s x false false y first second same =
    let e = ap (λ xs. get_or xs 0 0) same in absurd (omega (arith, e))
flags_told false true x true t y first second same =
    let e = ap (λ xs. get_or xs 0 0) same in absurd (omega (arith, e))
flags_told false false x true t y first second same =
    let e = ap (λ xs. get_or xs 0 0) same in absurd (omega (arith, e))
flags_told false true x false true y first second same = (refl, refl)
flags_told false true x false false y first second same =
    let e = ap (λ xs. get_or xs 0 0) same in absurd (omega (arith, e))
flags_told false false x false true y first second same =
    let e = ap (λ xs. get_or xs 0 0) same in absurd (omega (arith, e))
flags_told false false x false false y first second same = (refl, refl)

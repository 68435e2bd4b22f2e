-- The symbols of a picture tell the numbers.
use Rattle.std.proofs.Common.{◌≡◌, ℕ, zero, suc, ◌+◌, ◌-◌, ◌*◌, ◌/◌, ◌%◌, ◌<◌, ◌≤◌, List, [], ◌∷◌, ◌++◌, length, map, get_or, refl, sym, ap, ◌∙◌, subst, arith, inl, inr}
use Rattle.std.specs.List.{range_with_len, flat_map}
use Rattle.std.proofs.lemmas.Bool.{cases_eq, eq-eqb, ne_eqb}
use Rattle.std.proofs.lemmas.List.{append_assoc, length-append}
use Rattle.std.proofs.lemmas.List.FromFn.{get_or-map-range_with_len, length-map-range_with_len}
use Rattle.std.proofs.lemmas.Grind.{same_number_lists}
use Rattle.std.proofs.lemmas.Nat.{div-add-mod', div_below, mod_below}
use Rattle.latin_board.specs.Squares.{number_at}
use Rattle.latin_board.specs.Boards.{BoardValue, IsBoard, grid_of}
use Rattle.towers_game.specs.Towers.{TowersValue}
use Rattle.unequal_game.specs.Unequal.{UnequalValue}
use Rattle.byte_text.specs.Bytes.{line_feed}
use Rattle.line_replies.specs.Symbols.{square_symbol, square_at, spaced_line}
use Rattle.line_replies.specs.TowersPicture.{towers_picture, towers_row, clue_row, clue_at}
use Rattle.line_replies.specs.UnequalPicture.{unequal_picture, squares_line, signs_line, sign_before}
use Rattle.line_replies.specs.Faithful.{PicturesShowNumbers}

-- ---- lists

-- if two texts are the same, so are beginnings of as many bytes, and what is behind these
pub fronts_same : (a b x y : List ℕ) → length a ≡ length b → a ++ x ≡ b ++ y → (a ≡ b) × (x ≡ y)
fronts_same [] [] x y long same = (refl, same)
fronts_same [] (k ∷ b) x y long same = absurd (omega (arith, long))
fronts_same (k ∷ a) [] x y long same = absurd (omega (arith, long))
fronts_same (k ∷ a) (n ∷ b) x y long same =
    let tails : a ++ x ≡ b ++ y = cc in
    let heads : k ≡ n = cc in
    let rest = fronts_same a b x y (omega (arith, long)) tails in
    (λ i. heads i ∷ rest.0 i, rest.1)

-- if two texts with the same front are the same, so is what is behind the front
pub rests_same : (a x y : List ℕ) → a ++ x ≡ a ++ y → x ≡ y
rests_same a x y same = (fronts_same a a x y refl same).1

-- functions that have the same values along a range have the same value at each of its numbers
pub each_same : (f g : ℕ → ℕ) (n : ℕ) → map f (range_with_len 0 n) ≡ map g (range_with_len 0 n) → (k : ℕ) → k < n → f k ≡ g k
each_same f g n same k inside =
    sym (get_or-map-range_with_len f 0 n k k 0 inside (omega arith)) ∙ ap (λ xs. get_or xs k 0) same
    ∙ get_or-map-range_with_len g 0 n k k 0 inside (omega arith)

-- if two texts begin with lines of as many symbols and are the same, so are the symbols and what is behind
pub spaced_same : (xs ys rest more : List ℕ) → length xs ≡ length ys → spaced_line xs ++ rest ≡ spaced_line ys ++ more
    → (xs ≡ ys) × (rest ≡ more)
spaced_same [] [] rest more long same = (refl, cc)
spaced_same [] (y ∷ ys) rest more long same = absurd (omega (arith, long))
spaced_same (x ∷ xs) [] rest more long same = absurd (omega (arith, long))
spaced_same (x ∷ []) (y ∷ []) rest more long same =
    let heads : x ≡ y = cc in
    (λ i. heads i ∷ [], cc)
spaced_same (x ∷ []) (y ∷ z ∷ ys) rest more long same = absurd (omega (arith, long))
spaced_same (x ∷ w ∷ xs) (y ∷ []) rest more long same = absurd (omega (arith, long))
spaced_same (x ∷ w ∷ xs) (y ∷ z ∷ ys) rest more long same =
    let heads : x ≡ y = cc in
    let tails : spaced_line (w ∷ xs) ++ rest ≡ spaced_line (z ∷ ys) ++ more = cc in
    let both = spaced_same (w ∷ xs) (z ∷ ys) rest more (omega (arith, long)) tails in
    (λ i. heads i ∷ both.0 i, both.1)

-- ---- squares

-- squares that show the same symbol have the same number
pub symbol_same : (n m : ℕ) → n ≤ 9 → m ≤ 9 → square_symbol n ≡ square_symbol m → n ≡ m
symbol_same n m low small same = elim (cases_eq n 0) [
  | inl none ↦ elim (cases_eq m 0) [
    | inl blank ↦ none ∙ sym blank
    | inr some ↦ absurd (let e = rw (eq-eqb n 0 none, ne_eqb m 0 some) at same in omega (arith, e))
  ]
  | inr some ↦ elim (cases_eq m 0) [
    | inl blank ↦ absurd (let e = rw (ne_eqb n 0 some, eq-eqb m 0 blank) at same in omega (arith, e))
    | inr filled ↦ let e = rw (ne_eqb n 0 some, ne_eqb m 0 filled) at same in omega (arith, e)
  ]
]

-- boards of which each square shows the same symbol have the same numbers
numbers_same : (w : ℕ) (b c : BoardValue) → IsBoard b → IsBoard c → b.size ≡ w → c.size ≡ w
    → ((y x : ℕ) → y < w → x < w → square_at b (y * w + x) ≡ square_at c (y * w + x)) → b.numbers ≡ c.numbers
numbers_same w b c first second b_size c_size each =
    let one = first.is_grid.count in
    let two = second.is_grid.count in
    let low = first.is_grid.smallest in
    let high = first.is_grid.largest in
    let long : length b.numbers ≡ length c.numbers = one ∙ ap (λ n. n * n) (b_size ∙ sym c_size) ∙ sym two in
    let square : length b.numbers ≡ w * w = one ∙ ap (λ n. n * n) b_size in
    let some : 0 < w = omega (arith, low, b_size) in
    same_number_lists b.numbers c.numbers long (λ k inside.
    let within : k < w * w = omega (arith, square, inside) in
    let at : k / w * w + k % w ≡ k = div-add-mod' k w in
    let here : square_at b k ≡ square_at c k =
    subst (λ (cell : ℕ). square_at b cell ≡ square_at c cell) at (each (k / w) (k % w) (div_below k w w some within) (mod_below k w some)) in
    let b_low = first.is_grid.within k 0 inside in
    let c_low = second.is_grid.within k 0 (omega (arith, long, inside)) in
    symbol_same (number_at (grid_of b) k) (number_at (grid_of c) k) (omega (arith, b_low, high)) (omega (arith, c_low, high, b_size, c_size)) here)

-- ---- Towers

-- if texts of rows of as many symbols are the same, so is each row
rows_same : (f g : ℕ → List ℕ) (a n : ℕ) (rest more : List ℕ) → ((y : ℕ) → length (f y) ≡ length (g y))
    → flat_map (λ y. spaced_line (f y)) (range_with_len a n) ++ rest ≡ flat_map (λ y. spaced_line (g y)) (range_with_len a n) ++ more
    → (y : ℕ) → a ≤ y → y < a + n → f y ≡ g y
rows_same f g a zero rest more long same y low high = absurd (omega arith)
rows_same f g a (suc n) rest more long same y low high =
    let ones = flat_map (λ y. spaced_line (f y)) (range_with_len (a + 1) n) in
    let others = flat_map (λ y. spaced_line (g y)) (range_with_len (a + 1) n) in
    let parts = spaced_same (f a) (g a) (ones ++ rest) (others ++ more) (long a)
    (sym (append_assoc (spaced_line (f a)) ones rest) ∙ same ∙ append_assoc (spaced_line (g a)) others more) in
    elim (cases_eq y a) [
      | inl here ↦ rw here parts.0
      | inr later ↦ rows_same f g (a + 1) n rest more long parts.1 y (omega (arith, later)) (omega arith)
    ]

-- a row of squares has as many symbols for one board as for another
towers_row_long : (v : TowersValue) (b c : BoardValue) (y : ℕ) → length (towers_row v b y) ≡ length (towers_row v c y)
towers_row_long v b c y =
    ap suc (length-append (squares b) (clue_at v (3 * v.size + y) ∷ [])
    ∙ ap (λ n. n + 1) (long b ∙ sym (long c)) ∙ sym (length-append (squares c) (clue_at v (3 * v.size + y) ∷ [])))
  where
    squares : BoardValue → List ℕ
    squares d = map (λ x. square_at d (y * v.size + x)) (range_with_len 0 v.size)

    long : (d : BoardValue) → length (squares d) ≡ v.size
    long d = length-map-range_with_len (λ x. square_at d (y * v.size + x)) 0 v.size

pub towers_show : PicturesShowNumbers (λ (v : TowersValue). v.size) towers_picture
towers_show v b c first second b_size c_size same = numbers_same v.size b c first second b_size c_size each
  where
    rows : (y : ℕ) → y < v.size → towers_row v b y ≡ towers_row v c y
    rows y inside =
        let below = spaced_line (clue_row v v.size) in
        rows_same (towers_row v b) (towers_row v c) 0 v.size below below (towers_row_long v b c)
        (rests_same (spaced_line (clue_row v 0)) _ _ same) y (omega arith) (omega arith)

    each : (y x : ℕ) → y < v.size → x < v.size → square_at b (y * v.size + x) ≡ square_at c (y * v.size + x)
    each y x down across =
        let f : ℕ → ℕ = λ k. square_at b (y * v.size + k) in
        let g : ℕ → ℕ = λ k. square_at c (y * v.size + k) in
        let row = rows y down in
        let squares : map f (range_with_len 0 v.size) ++ clue_at v (3 * v.size + y) ∷ [] ≡ map g (range_with_len 0 v.size) ++ clue_at v (3 * v.size + y) ∷ [] = cc in
        let long : length (map f (range_with_len 0 v.size)) ≡ length (map g (range_with_len 0 v.size)) =
        length-map-range_with_len f 0 v.size ∙ sym (length-map-range_with_len g 0 v.size) in
        each_same f g v.size (fronts_same _ _ _ _ long squares).0 x across

-- ---- Unequal

-- if signs and squares in turn are the same, so are the squares
pairs_same : (s f g : ℕ → ℕ) (a n : ℕ) (rest more : List ℕ)
    → flat_map (λ x. s x ∷ f x ∷ []) (range_with_len a n) ++ rest ≡ flat_map (λ x. s x ∷ g x ∷ []) (range_with_len a n) ++ more
    → ((x : ℕ) → a ≤ x → x < a + n → f x ≡ g x) × (rest ≡ more)
pairs_same s f g a zero rest more same = (λ x low high. absurd (omega arith), same)
pairs_same s f g a (suc n) rest more same =
    let here : f a ≡ g a = cc in
    let later : flat_map (λ x. s x ∷ f x ∷ []) (range_with_len (a + 1) n) ++ rest ≡ flat_map (λ x. s x ∷ g x ∷ []) (range_with_len (a + 1) n) ++ more = cc in
    let tail = pairs_same s f g (a + 1) n rest more later in (
      λ x low high. elim (cases_eq x a) [
        | inl same_x ↦ rw same_x here
        | inr other ↦ tail.0 x (omega (arith, other)) (omega arith)
      ],
      tail.1,
    )

-- if the lines of a row of squares are the same, so is the symbol of each of the squares
squares_same : (v : UnequalValue) (b c : BoardValue) (first : ℕ) (rest more : List ℕ) → 0 < v.size
    → squares_line v b first ++ rest ≡ squares_line v c first ++ more
    → ((x : ℕ) → x < v.size → square_at b (first + x) ≡ square_at c (first + x)) × (rest ≡ more)
squares_same v b c first rest more some same =
    let s : ℕ → ℕ = λ x. sign_before v (first + x) in
    let f : ℕ → ℕ = λ x. square_at b (first + x) in
    let g : ℕ → ℕ = λ x. square_at c (first + x) in
    let ones = flat_map (λ x. s x ∷ f x ∷ []) (range_with_len 1 (v.size - 1)) in
    let others = flat_map (λ x. s x ∷ g x ∷ []) (range_with_len 1 (v.size - 1)) in
    let here : square_at b first ≡ square_at c first = cc in
    let tails : (ones ++ line_feed ∷ []) ++ rest ≡ (others ++ line_feed ∷ []) ++ more = cc in
    let tail = pairs_same s f g 1 (v.size - 1) (line_feed ∷ rest) (line_feed ∷ more)
    (sym (append_assoc ones (line_feed ∷ []) rest) ∙ tails ∙ append_assoc others (line_feed ∷ []) more) in (
      λ x across. elim (cases_eq x 0) [
        | inl none ↦
            let at : first ≡ first + x = omega (arith, none) in
            subst (λ (k : ℕ). square_at b k ≡ square_at c k) at here
        | inr later ↦ tail.0 x (omega (arith, later)) (omega arith)
      ],
      let both = tail.1 in cc,
    )

lines_same : (v : UnequalValue) (b c : BoardValue) (a n : ℕ) (rest more : List ℕ) → 0 < v.size
    → flat_map (λ y. signs_line v (y * v.size) ++ squares_line v b (y * v.size)) (range_with_len a n) ++ rest
    ≡ flat_map (λ y. signs_line v (y * v.size) ++ squares_line v c (y * v.size)) (range_with_len a n) ++ more
    → (y x : ℕ) → a ≤ y → y < a + n → x < v.size → square_at b (y * v.size + x) ≡ square_at c (y * v.size + x)
lines_same v b c a zero rest more some same y x low high across = absurd (omega arith)
lines_same v b c a (suc n) rest more some same y x low high across =
    let line : BoardValue → ℕ → List ℕ = λ d y. signs_line v (y * v.size) ++ squares_line v d (y * v.size) in
    let ones = flat_map (line b) (range_with_len (a + 1) n) in
    let others = flat_map (line c) (range_with_len (a + 1) n) in
    let signs = signs_line v (a * v.size) in
    let one = squares_line v b (a * v.size) in
    let other = squares_line v c (a * v.size) in
    let split : (d rest : List ℕ) (e : List ℕ) → ((signs ++ d) ++ e) ++ rest ≡ signs ++ (d ++ (e ++ rest)) = λ d rest e.
    append_assoc (signs ++ d) e rest ∙ append_assoc signs d (e ++ rest) in
    let parts = squares_same v b c (a * v.size) (ones ++ rest) (others ++ more) some
    (rests_same signs _ _ (sym (split one rest ones) ∙ same ∙ split other more others)) in
    elim (cases_eq y a) [
      | inl here ↦ rw here (parts.0 x across)
      | inr later ↦ lines_same v b c (a + 1) n rest more some parts.1 y x (omega (arith, later)) (omega arith) across
    ]

pub unequal_show : PicturesShowNumbers (λ (v : UnequalValue). v.size) unequal_picture
unequal_show v b c first second b_size c_size same = numbers_same v.size b c first second b_size c_size each
  where
    each : (y x : ℕ) → y < v.size → x < v.size → square_at b (y * v.size + x) ≡ square_at c (y * v.size + x)
    each y x down across =
        let some : 0 < v.size = omega arith in
        let line : BoardValue → ℕ → List ℕ = λ d y. signs_line v (y * v.size) ++ squares_line v d (y * v.size) in
        let top = squares_same v b c 0 (flat_map (line b) (range_with_len 1 (v.size - 1))) (flat_map (line c) (range_with_len 1 (v.size - 1))) some same in
        elim (cases_eq y 0) [
          | inl none ↦
              let start : 0 + x ≡ 0 * v.size + x = omega arith in
              let at : 0 + x ≡ y * v.size + x = start ∙ ap (λ k. k * v.size + x) (sym none) in
              subst (λ (k : ℕ). square_at b k ≡ square_at c k) at (top.0 x across)
          | inr later ↦
              lines_same v b c 1 (v.size - 1) [] [] some (ap (λ t. t ++ []) top.1) y x (omega (arith, later)) (omega arith) across
        ]

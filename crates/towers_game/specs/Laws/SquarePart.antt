-- The square part of a Towers description: what is read has the grammar, and what has the grammar is read.
use Rattle.std.proofs.lemmas.Bool.Decides.{nat_tests}
use Rattle.std.proofs.Common.{◌≡◌, ℕ, zero, suc, ◌+◌, ◌-◌, ◌*◌, ◌<◌, ◌≤◌, true, false}
use Rattle.std.proofs.Common.{List, [], ◌∷◌, ◌++◌, length, replicate, Ok, ◌⊎◌, inl, inr, refl, sym, ap, ◌∙◌, subst, arith}
use Rattle.std.specs.List.{AllByRecursion, flat_map}
use Rattle.std.proofs.lemmas.Bool.{and_parts, and_from, lt-leb}
use Rattle.byte_text.specs.Decimals.{begins_digit}
use Rattle.byte_text.specs.Bytes.{underscore, letter_a, letter_z, digit_zero, digit_nine}
use Rattle.towers_game.specs.TowersText.{IsSquareText, is_blank_letter, is_square_byte, is_square_part, squares_of, givens_at, blanks_of}
use Rattle.game_texts.specs.Laws.Exactly.{exactly_taken, exactly_again}
use Rattle.game_texts.specs.Laws.Refusals.{refused_else}

-- what a byte of a square part may be
abbrev pub SquareByte : ℕ → ℕ → List ℕ → Type 0
SquareByte w b bs =
    (b ≡ underscore) ⊎ ((letter_a ≤ b) × (b ≤ letter_z))
    ⊎ ((digit_zero + 1 ≤ b) × (b ≤ digit_zero + w) × (begins_digit bs ≡ false))

-- a byte from `a` to `z` is a blank letter
letter_true : (b : ℕ) → letter_a ≤ b → b ≤ letter_z → is_blank_letter b ≡ true
letter_true b low high = grind (arith, nat_tests)

-- a byte below `a` is no blank letter
letter_false : (b : ℕ) → b < letter_a → is_blank_letter b ≡ false
letter_false b low = rw (lt-leb letter_a b low) refl

-- a byte that passes the test is one of the grammar
pub byte_taken : (w b : ℕ) (bs : List ℕ) → is_square_byte w b bs ≡ true → SquareByte w b bs
byte_taken w b bs is = grind (arith, nat_tests)

-- an underscore stands for no squares
pub squares_of_underscore : (b : ℕ) → b ≡ underscore → squares_of b ≡ []
squares_of_underscore b same = rw same refl

-- a letter stands for as many blank squares as its place in the alphabet
pub squares_of_letter : (b : ℕ) → letter_a ≤ b → b ≤ letter_z → squares_of b ≡ replicate (blanks_of b) 0
squares_of_letter b low high = rw (letter_true b low high) refl

-- a digit stands for one square, with its number
pub squares_of_digit : (b : ℕ) → digit_zero ≤ b → b ≤ digit_nine → squares_of b ≡ (b - digit_zero) ∷ []
squares_of_digit b low high = grind (arith, nat_tests, letter_false)

-- a square part that passes the test is a text of the squares that its bytes stand for
pub squares_taken : (w : ℕ) (bs : List ℕ) → w ≤ 9 → is_square_part w bs ≡ true
    → IsSquareText w bs (flat_map squares_of bs)
squares_taken w [] small is = refl
squares_taken w (b ∷ bs) small is =
    let (byte, others) = and_parts (is_square_byte w b bs) (is_square_part w bs) is in
    let rest = flat_map squares_of bs in
    let more = squares_taken w bs small others in
    elim (byte_taken w b bs byte) [
      | inl same ↦ inl (same, rw (squares_of_underscore b same) more)
      | inr other ↦
          elim other [
            | inl (low, high) ↦ inr
                (inl (low, high, (rest, ap (λ xs. xs ++ rest) (squares_of_letter b low high), more)))
            | inr (low, high, ends) ↦
                inr (inr (
                  low,
                  high,
                  ends,
                  (rest, ap (λ xs. xs ++ rest) (squares_of_digit b (omega arith) (omega arith)), more),
                ))
          ]
    ]

-- a byte of the grammar passes the test
byte_again : (w b : ℕ) (bs : List ℕ) → SquareByte w b bs → is_square_byte w b bs ≡ true
byte_again w b bs is = grind (arith, nat_tests)

-- a text of some squares passes the test, and its bytes stand for these squares
pub squares_again : (w : ℕ) (bs squares : List ℕ) → w ≤ 9 → IsSquareText w bs squares
    → (is_square_part w bs ≡ true) × (flat_map squares_of bs ≡ squares)
squares_again w [] squares small text = (refl, sym text)
squares_again w (b ∷ bs) squares small (inl (same, text)) =
    let (passes, are) = squares_again w bs squares small text in
    (and_from _ _ (byte_again w b bs (inl same)) passes, rw (squares_of_underscore b same) are)
squares_again w (b ∷ bs) squares small (inr (inl (low, high, (rest, says, text)))) =
    let (passes, are) = squares_again w bs rest small text in (
      and_from _ _ (byte_again w b bs (inr (inl (low, high)))) passes,
      ap (λ xs. xs ++ flat_map squares_of bs) (squares_of_letter b low high)
          ∙ (ap (λ xs. replicate (blanks_of b) 0 ++ xs) are ∙ sym says),
    )
squares_again w (b ∷ bs) squares small (inr (inr (low, high, ends, (rest, says, text)))) =
    let (passes, are) = squares_again w bs rest small text in
    let here = squares_of_digit b (omega arith) (omega arith) in (
      and_from _ _ (byte_again w b bs (inr (inr (low, high, ends)))) passes,
      ap (λ xs. xs ++ flat_map squares_of bs) here ∙ (ap (λ xs. (b - digit_zero) ∷ xs) are ∙ sym says),
    )

-- squares in range stay in range with blank ones before them, and those of a square part are in range
pub zeros_within : (w n : ℕ) (squares : List ℕ) → AllByRecursion (λ s. s ≤ w) squares
    → AllByRecursion (λ s. s ≤ w) (replicate n 0 ++ squares)
zeros_within w zero squares within = within
zeros_within w (suc n) squares within = (omega arith, zeros_within w n squares within)

-- the squares that a text says are at most the width
pub squares_within : (w : ℕ) (bs squares : List ℕ) → IsSquareText w bs squares → AllByRecursion (λ s. s ≤ w) squares
squares_within w [] squares text = subst (AllByRecursion (λ s. s ≤ w)) (sym text) tt
squares_within w (b ∷ bs) squares (inl (same, text)) = squares_within w bs squares text
squares_within w (b ∷ bs) squares (inr (inl (low, high, (rest, says, text)))) =
    subst (AllByRecursion (λ s. s ≤ w)) (sym says) (zeros_within w (blanks_of b) rest (squares_within w bs rest text))
squares_within w (b ∷ bs) squares (inr (inr (low, high, ends, (rest, says, text)))) =
    subst (AllByRecursion (λ s. s ≤ w)) (sym says) (omega arith, squares_within w bs rest text)

-- givens that are read are the squares that the text says, as many as the grid has
pub givens_taken : (w : ℕ) (part givens : List ℕ) → w ≤ 9 → givens_at w part ≡ Ok givens
    → (length givens ≡ w * w) × IsSquareText w part givens
unfolding givens_at
givens_taken w part givens small read = grind (arith, nat_tests, refused_else, exactly_taken, squares_taken)

-- a text of as many squares as the grid has is read as these givens
pub givens_again : (w : ℕ) (part givens : List ℕ) → w ≤ 9 → length givens ≡ w * w → IsSquareText w part givens
    → givens_at w part ≡ Ok givens
unfolding givens_at
givens_again w part givens small count text = grind (arith, nat_tests, squares_again, exactly_again)

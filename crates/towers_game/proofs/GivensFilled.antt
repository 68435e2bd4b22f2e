-- The givens of a Towers description, filled byte by byte.
use Rattle.std.proofs.lemmas.Bool.Decides.{nat_tests}
use Rattle.std.proofs.Common.{◌≡◌, ℕ, ◌+◌, ◌-◌, ◌*◌, ◌<◌, ◌≤◌, true, List, ◌++◌, take, set, replicate, sym, ap, ◌∙◌, arith}
use Rattle.std.specs.List.{flat_map}
use Rattle.line_steps.specs.Inner.Filled.{IsFilledTo}
use Rattle.towers_game.specs.TowersText.{blanks_of, is_square_part, squares_of}
use Rattle.towers_game.specs.Laws.SquarePart.{squares_of_letter}
use Rattle.byte_text.specs.Bytes.{letter_a, letter_z}
use Rattle.line_steps.proofs.FilledLemmas.{filled_one, filled_run}

-- a digit fills the next square with its number
pub digit_filled : (w n place v : ℕ) (xs ys : List ℕ) → ys ≡ set xs place v → IsFilledTo 0 (w * w) place xs → n ≡ w
    → 0 < n * n - place → IsFilledTo 0 (w * w) (place + 1) ys
digit_filled w n place v xs ys is filled width room =
    let area : n * n ≡ w * w = ap (λ k. k * k) width in
    rw is (filled_one 0 (w * w) place v xs filled (omega arith)).0

-- a letter fills its run of squares, which stay 0
pub letter_filled : (w n place k : ℕ) (xs : List ℕ) → IsFilledTo 0 (w * w) place xs → n ≡ w → k ≤ n * n - place
    → IsFilledTo 0 (w * w) (place + k) xs
letter_filled w n place k xs filled width fits = grind (arith, nat_tests, filled_run)

-- once a letter is taken, the squares so far end with its blank ones
pub letter_taken : (w n place byte : ℕ) (xs : List ℕ) → IsFilledTo 0 (w * w) place xs → n ≡ w
    → byte - letter_a + 1 ≤ n * n - place → letter_a ≤ byte → byte ≤ letter_z
    → take (place + (byte - letter_a + 1)) xs ≡ take place xs ++ squares_of byte
letter_taken w n place byte xs filled width fits low high =
    let k = byte - letter_a + 1 in
    let area : n * n ≡ w * w = ap (λ k. k * k) width in
    let within = filled.within in
    let blanks : blanks_of byte ≡ k = omega arith in
    let squares : squares_of byte ≡ replicate k 0 = squares_of_letter byte low high ∙ ap (λ m. replicate m 0) blanks in
    (filled_run 0 (w * w) place k xs filled (omega arith)).1 ∙ ap (λ ys. take place xs ++ ys) (sym squares)

-- what is known while the givens are filled: the squares so far, and the part that is left
pub record FillsGivens (w : ℕ) (part rest : List ℕ) (cell : ℕ) (numbers : List ℕ) : Type 0 where
  pub filled : IsFilledTo 0 (w * w) cell numbers
  pub readable : is_square_part w rest ≡ true
  pub squares : flat_map squares_of part ≡ take cell numbers ++ flat_map squares_of rest

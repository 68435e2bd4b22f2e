-- The square part that is written is a text of its squares.
use Rattle.std.proofs.lemmas.Bool.Decides.{nat_tests}
use Rattle.std.proofs.Common.{◌≡◌, ◌≢◌, ℕ, zero, suc, ◌+◌, ◌-◌, ◌*◌, ◌/◌, ◌%◌, ◌<◌, ◌≤◌, Bool, true, false, ◌==◌, ◌&&◌}
use Rattle.std.proofs.Common.{List, [], ◌∷◌, ◌++◌, replicate, inl, inr, refl, sym, ap, ◌∙◌, subst, arith, append_assoc}
use Rattle.std.proofs.Common.{append-nil, nat_le, if◌then◌else◌}
use Rattle.std.specs.List.{AllByRecursion}
use Rattle.std.proofs.lemmas.List.{replicate-append-replicate, replicate_more}
use Rattle.std.proofs.lemmas.Bool.{and_right, cases_eq, cond_both, eqb-true, eqb-false, ne_eqb, lt-leb}
use Rattle.byte_text.specs.Decimals.{is_digit, begins_digit}
use Rattle.byte_text.specs.Bytes.{letter_z, letter_a, digit_nine, digit_zero, underscore}
use Rattle.towers_game.specs.TowersText.{IsSquareText, blank_letters, given_written, squares_written}

-- a letter before a text puts its blank squares before the text's squares
letter_text : (w k : ℕ) (bs squares : List ℕ) → k < 26 → IsSquareText w bs squares
    → IsSquareText w ((letter_a + k) ∷ bs) (replicate (k + 1) 0 ++ squares)
letter_text w k bs squares small text = grind (arith, nat_tests)

-- k times `z` before a text put 26 blank squares each before the text's squares
zs_text : (w k : ℕ) (bs squares : List ℕ) → IsSquareText w bs squares
    → IsSquareText w (replicate k letter_z ++ bs) (replicate (k * 26) 0 ++ squares)
zs_text w zero bs squares text = text
zs_text w (suc k) bs squares text =
    let more =
    letter_text w 25 (replicate k letter_z ++ bs) (replicate (k * 26) 0 ++ squares) (omega arith)
    (zs_text w k bs squares text) in
    let runs : replicate 26 0 ++ (replicate (k * 26) 0 ++ squares) ≡ replicate (suc k * 26) 0 ++ squares =
    let count : 26 + k * 26 ≡ suc k * 26 = omega arith in
    sym (append_assoc (replicate 26 0) (replicate (k * 26) 0) squares)
    ∙ ap (λ xs. xs ++ squares) (replicate-append-replicate 26 (k * 26) 0 ∙ ap (λ m. replicate m 0) count) in
    subst (IsSquareText w (letter_z ∷ (replicate k letter_z ++ bs))) runs more

-- the letters of a run that is not empty are `z` for each 26 and one letter more
blank_letters_some : (n : ℕ) → n ≢ 0
    → blank_letters n ≡ replicate ((n - 1) / 26) letter_z ++ ((letter_a + (n - 1) % 26) ∷ [])
blank_letters_some n some = rw (ne_eqb n 0 some) refl

-- k times `z` and a letter before a text put their blank squares before the text's squares
run_text : (w k r : ℕ) (bs squares : List ℕ) → r < 26 → IsSquareText w bs squares
    → IsSquareText w ((replicate k letter_z ++ ((letter_a + r) ∷ [])) ++ bs) (replicate (k * 26 + (r + 1)) 0 ++ squares)
run_text w k r bs squares small text =
    let last = letter_text w r bs squares small text in
    let whole = zs_text w k ((letter_a + r) ∷ bs) (replicate (r + 1) 0 ++ squares) last in
    let runs : replicate (k * 26) 0 ++ (replicate (r + 1) 0 ++ squares) ≡ replicate (k * 26 + (r + 1)) 0 ++ squares =
    sym (append_assoc (replicate (k * 26) 0) (replicate (r + 1) 0) squares)
    ∙ ap (λ xs. xs ++ squares) (replicate-append-replicate (k * 26) (r + 1) 0) in
    let bytes : replicate k letter_z ++ ((letter_a + r) ∷ bs) ≡ (replicate k letter_z ++ ((letter_a + r) ∷ [])) ++ bs =
    sym (append_assoc (replicate k letter_z) ((letter_a + r) ∷ []) bs) in
    subst (λ t. IsSquareText w t (replicate (k * 26 + (r + 1)) 0 ++ squares)) bytes
    (subst (IsSquareText w (replicate k letter_z ++ ((letter_a + r) ∷ bs))) runs whole)

-- the letters of a run of n blank squares before a text put n of them before the text's squares
blanks_text : (w n : ℕ) (bs squares : List ℕ) → IsSquareText w bs squares
    → IsSquareText w (blank_letters n ++ bs) (replicate n 0 ++ squares)
blanks_text w n bs squares text = elim (cases_eq n 0) [
  | inl none ↦ rw none text
  | inr some ↦
      let count : (n - 1) / 26 * 26 + ((n - 1) % 26 + 1) ≡ n = omega arith in
      let run = run_text w ((n - 1) / 26) ((n - 1) % 26) bs squares (omega arith) text in
      rw (blank_letters_some n some)
      (subst (λ m. IsSquareText w ((replicate ((n - 1) / 26) letter_z ++ ((letter_a + (n - 1) % 26) ∷ [])) ++ bs)
      (replicate m 0 ++ squares)) count run)
]

-- a byte past `9` is no digit, so no text that begins with a letter begins with one
digit_not : (b : ℕ) → digit_nine < b → is_digit b ≡ false
digit_not b above = rw (lt-leb b digit_nine above) (and_right (nat_le digit_zero b) false refl)

-- a text that begins with a letter begins with no digit
letters_begin_at : (k r : ℕ) (bs : List ℕ)
    → begins_digit ((replicate k letter_z ++ ((letter_a + r) ∷ [])) ++ bs) ≡ false
letters_begin_at zero r bs = digit_not (letter_a + r) (omega arith)
letters_begin_at (suc k) r bs = refl

-- the letters of a run that is not empty begin with no digit
letters_begin : (n : ℕ) (bs : List ℕ) → n ≢ 0 → begins_digit (blank_letters n ++ bs) ≡ false
letters_begin n bs some =
    rw (blank_letters_some n some) (letters_begin_at ((n - 1) / 26) ((n - 1) % 26) bs)

-- a given as it is written, with more text after it, is that of its parts one after another
given_whole : (n : ℕ) (after_given : Bool) (s : ℕ) (bs : List ℕ)
    → blank_letters n ++ ((if (n == 0) && after_given then (underscore ∷ []) else []) ++ ((digit_zero + s) ∷ bs))
    ≡ given_written n after_given s ++ bs
given_whole n after_given s bs = simp append_assoc

-- a given that is written after another given begins with no digit
given_begins : (n s : ℕ) (bs : List ℕ) → begins_digit (given_written n true s ++ bs) ≡ false
given_begins n s bs = grind (arith, nat_tests, given_whole, letters_begin)

-- squares that are written after a given begin with no digit
begins_written : (n : ℕ) (squares : List ℕ) → begins_digit (squares_written n true squares) ≡ false
begins_written n [] = elim (cases_eq n 0) [
  | inl none ↦ rw none refl
  | inr some ↦ subst (λ xs. begins_digit xs ≡ false) (append-nil (blank_letters n)) (letters_begin n [] some)
]
begins_written n (s ∷ ss) =
    cond_both (s == 0) (squares_written (n + 1) true ss) (given_written n true s ++ squares_written 0 true ss)
    (λ bs. begins_digit bs ≡ false)
    (λ none. begins_written (n + 1) ss) (λ some. given_begins n s (squares_written 0 true ss))

-- a digit before a text that begins with none puts a given before the text's squares
digit_text : (w s : ℕ) (bs squares : List ℕ) → s ≢ 0 → s ≤ w → begins_digit bs ≡ false → IsSquareText w bs squares
    → IsSquareText w ((digit_zero + s) ∷ bs) (s ∷ squares)
digit_text w s bs squares some within ends text = grind (arith, nat_tests)

-- a given that is written with or without `_` before it puts its number before the squares
given_text : (w s : ℕ) (separate : Bool) (bs squares : List ℕ) → s ≢ 0 → s ≤ w → begins_digit bs ≡ false
    → IsSquareText w bs squares
    → IsSquareText w ((if separate then (underscore ∷ []) else []) ++ ((digit_zero + s) ∷ bs)) (s ∷ squares)
given_text w s true bs squares some within ends text = inl (refl, digit_text w s bs squares some within ends text)
given_text w s false bs squares some within ends text = digit_text w s bs squares some within ends text

-- n + 1 blank squares before some are n before one blank square and these
zeros_more : (n : ℕ) (squares : List ℕ) → replicate (n + 1) 0 ++ squares ≡ replicate n 0 ++ 0 ∷ squares
zeros_more n squares =
    ap (λ xs. xs ++ squares) (sym (replicate_more n 0)) ∙ append_assoc (replicate n 0) (0 ∷ []) squares

-- the text that is written for some squares after n blank ones says all of these
written_text : (w n : ℕ) (after_given : Bool) (squares : List ℕ) → AllByRecursion (λ s. s ≤ w) squares
    → IsSquareText w (squares_written n after_given squares) (replicate n 0 ++ squares)
written_text w n after_given [] within =
    subst (λ t. IsSquareText w t (replicate n 0 ++ [])) (append-nil (blank_letters n)) (blanks_text w n [] [] refl)
written_text w n after_given (s ∷ ss) within =
    cond_both (s == 0) (squares_written (n + 1) after_given ss)
    (given_written n after_given s ++ squares_written 0 true ss)
    (λ bs. IsSquareText w bs (replicate n 0 ++ s ∷ ss))
    (λ none.
    let squares_are : replicate (n + 1) 0 ++ ss ≡ replicate n 0 ++ s ∷ ss =
    zeros_more n ss ∙ ap (λ x. replicate n 0 ++ x ∷ ss) (sym (eqb-true s 0 none)) in
    subst (IsSquareText w (squares_written (n + 1) after_given ss)) squares_are
    (written_text w (n + 1) after_given ss within.1))
    (λ some.
    subst (λ t. IsSquareText w t (replicate n 0 ++ s ∷ ss)) (given_whole n after_given s (squares_written 0 true ss))
    (blanks_text w n _ (s ∷ ss)
    (given_text w s ((n == 0) && after_given) (squares_written 0 true ss) ss (eqb-false s 0 some) within.0
    (begins_written 0 ss) (written_text w 0 true ss within.1))))

-- the text that is written for some squares says these squares
pub squares_written_text : (w : ℕ) (squares : List ℕ) → AllByRecursion (λ s. s ≤ w) squares
    → IsSquareText w (squares_written 0 false squares) squares
squares_written_text w squares within = written_text w 0 false squares within

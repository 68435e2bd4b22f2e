-- The text of a coordinate from -1 to 9, by the sign of the byte that holds it.
use Rattle.std.proofs.Common.{◌≡◌, ℕ, zero, suc, ◌+◌, ◌≤◌, ◌<◌, ℤ, pos, negsuc, nat_abs, ◌≤ℤ◌, int_lt, SFits, to_z, of_z, to_z-of_z, w8, true, false, [], ◌∷◌, arith, ap, ltb-true, length, ◌*◌}
use Rattle.std.proofs.lemmas.Int.{ints}
use Rattle.std.proofs.lemmas.Fmt.{decimal_digit}
use Rattle.std.proofs.lemmas.Bool.Decides.{nat_tests}
use Rattle.latin_board.specs.Edges.{edge_xy}
use Rattle.play_midend.specs.MoveTexts.{coordinate_text}

negative : (z : ℤ) → negsuc zero ≤ℤ z → int_lt z (pos 0) ≡ true → coordinate_text z ≡ 45 ∷ 49 ∷ []
negative (pos n) low below = absurd (omega (arith, ltb-true n 0 below))
negative (negsuc zero) low below = ap (λ ds. 45 ∷ ds) (decimal_digit 1 (omega arith))
negative (negsuc (suc n)) low below = absurd (omega (arith, ints))

natural : (z : ℤ) → z ≤ℤ pos 9 → int_lt z (pos 0) ≡ false → coordinate_text z ≡ (48 + nat_abs z) ∷ []
natural (pos n) high above = let small : n < 10 = omega (arith, ints) in decimal_digit n small
natural (negsuc n) high above = cc

-- the text of the coordinate -1
pub negative_text : (z : ℤ) → SFits w8 z → negsuc zero ≤ℤ z → int_lt (to_z w8 (of_z w8 z)) (pos 0) ≡ true
    → coordinate_text z ≡ 45 ∷ 49 ∷ []
negative_text z fits low below = negative z low (rw to_z-of_z at below)

-- the text of a coordinate that has one digit
pub natural_text : (z : ℤ) → SFits w8 z → z ≤ℤ pos 9 → int_lt (to_z w8 (of_z w8 z)) (pos 0) ≡ false
    → coordinate_text z ≡ (48 + nat_abs (to_z w8 (of_z w8 z))) ∷ []
natural_text z fits high above = rw to_z-of_z (natural z high (rw to_z-of_z at above))

one_digit : (n : ℕ) → n ≤ 9 → length (coordinate_text (pos n)) ≡ 1
one_digit n h = let small : n < 10 = omega arith in ap length (decimal_digit n small)

minus_one : length (coordinate_text (negsuc zero)) ≡ 2
minus_one = ap (λ ds. length (45 ∷ ds)) (decimal_digit 1 (omega arith))

-- both coordinates of an edge place have at most 3 bytes together, since -1 isn't there twice
pub place_short : (w place : ℕ) → w ≤ 9 → place < 4 * w
    → length (coordinate_text (edge_xy w place).0) + length (coordinate_text (edge_xy w place).1) ≤ 3
place_short w place h k = grind (arith, nat_tests, one_digit, minus_one)

pub place_fits : (w place : ℕ) (p : ℤ × ℤ) → p ≡ edge_xy w place → w ≤ 9 → place < 4 * w → SFits w8 p.0 → SFits w8 p.1
    → length (coordinate_text (to_z w8 (of_z w8 p.0))) + length (coordinate_text (to_z w8 (of_z w8 p.1))) ≤ 3
place_fits w place p e h k f g = rw (to_z-of_z f, to_z-of_z g, e) (place_short w place h k)

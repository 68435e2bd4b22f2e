-- Lines as the bits of a word, and those that cross a line.
use Rattle.std.proofs.Common.{◌≡◌, ℕ, ◌+◌, ◌-◌, ◌*◌, ◌%◌, ◌^◌, ◌<◌, ◌≤◌, Bool, true, false, ◌&&◌, ◌||◌, ◌==◌, nat_le, inl, inr, refl, sym, ap, ◌∙◌, arith, add-zero, bit_or}
use Rattle.std.proofs.lemmas.Bool.{cases_lt, lt-ltb, le-ltb, lt-leb, le-leb, and_right}
use Rattle.std.proofs.lemmas.Nat.{one_shl, pow_pos, shl_whole}
use Rattle.std.proofs.lemmas.Nat.Bits.{bit_at-zero, bit_at_cat_low, bit_at_cat_high}
use Rattle.number_sets.specs.Sets.{has_number}
use Rattle.number_sets.proofs.Members.{has_number-one, has_number-or, no_number-from_bit, number-from_same_bit}
use Rattle.line_steps.specs.Takes.{is_crossing}

and_true : (b : Bool) → (b && true) ≡ b
and_true true = refl
and_true false = refl

-- setting a line's bit puts the line into the set, and leaves the others as they were
pub has_with : (set line k : ℕ) → line < 32 → has_number (bit_or set (1 * 2 ^ line % 4294967296)) k ≡ (has_number set k || (k == line))
has_with set line k low =
    rw (one_shl line 32 low) (has_number-or set (2 ^ line) k ∙ ap (λ (b : Bool). has_number set k || b) (has_number-one line k))

-- the lines of two words, joined bit by bit, are those that either of them has
pub has_either : (set a b k : ℕ) → set ≡ bit_or a b → has_number set k ≡ (has_number a k || has_number b k)
has_either set a b k is = rw is (has_number-or a b k)

-- setting a line's bit in the set of those that cross it makes the set of the line and these
pub has_crossing : (across line w places other : ℕ) → line < 32 → has_number across other ≡ is_crossing w line places other
    → has_number (bit_or across (1 * 2 ^ line % 4294967296)) other ≡ ((other == line) || is_crossing w line places other)
has_crossing across line w places other low is =
    has_with across line other low ∙ ap (λ (b : Bool). b || (other == line)) is ∙ or_turned (is_crossing w line places other) (other == line)
  where
    or_turned : (a b : Bool) → (a || b) ≡ (b || a)
    or_turned true true = refl
    or_turned true false = refl
    or_turned false true = refl
    or_turned false false = refl

-- the places of a column that are below the width are the rows that cross it there
pub has_rows : (rows places w line other : ℕ) → 0 < w → w ≤ line → has_number rows other ≡ (has_number places other && nat_le other (w - 1))
    → has_number rows other ≡ is_crossing w line places other
has_rows rows places w line other some column is =
    is ∙ rw (le-ltb line w column) (elim (cases_lt other w) [
      | inl row ↦ rw (lt-ltb other w row, le-leb other (w - 1) (omega (arith, row))) (and_true (has_number places other))
      | inr past ↦ rw (le-ltb other w past) (and_right (has_number places other) (nat_le other (w - 1)) (lt-leb other (w - 1) (omega (arith, past, some))))
    ])

-- the places of a row, shifted up by the width, are the columns that cross it there
pub has_columns : (columns places w line other : ℕ) → places < 2 ^ 16 → w ≤ 9 → line < w → columns ≡ places * 2 ^ w % 4294967296
    → has_number columns other ≡ is_crossing w line places other
has_columns columns places w line other small narrow row is =
    let whole : places * 2 ^ w % 2 ^ 32 ≡ places * 2 ^ w + 0 = shl_whole places 16 w 32 small (omega (arith, narrow)) ∙ sym (add-zero (places * 2 ^ w)) in
    ap (λ (n : ℕ). has_number n other) (is ∙ whole) ∙ rw (lt-ltb line w row) (elim (cases_lt other w) [
      | inl below ↦ rw (lt-ltb other w below) (no_number-from_bit (places * 2 ^ w + 0) other (bit_at_cat_low places w 0 other below ∙ bit_at-zero other))
      | inr on ↦ rw (le-ltb other w on) (number-from_same_bit (places * 2 ^ w + 0) other places (other - w) (bit_at_cat_high places w 0 other (pow_pos w) on))
    ])

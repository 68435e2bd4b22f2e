-- The `CELLS` places of a new grid and a new board: all are empty.
use Rattle.std.proofs.Common.{◌≡◌, ℕ, ◌*◌, ◌≤◌, take, replicate, refl, arith, sym, ◌∙◌}
use Rattle.std.proofs.lemmas.List.{take-replicate, drop-replicate}
use Rattle.std.proofs.lemmas.List.Elements.{All-replicate}
use Rattle.std.proofs.lemmas.Nat.{mul-le}
use Rattle.std.proofs.lemmas.Bool.{false≢true}
use Rattle.latin_board.specs.declared.grid.TheConstants.{CELLS}
use Rattle.latin_board.specs.Inner.Fields.{IsPadded, KeepsNumbers, KeepsMarks}
use Rattle.number_sets.specs.Sets.{no_numbers}
use Rattle.number_sets.proofs.Members.{has_number-none}
use Rattle.latin_board.specs.Marks.{IsMarkSet}

pub IsPadded-empty : (w : ℕ) → IsPadded w (replicate CELLS 0)
IsPadded-empty w = record { count = refl; rest = drop-replicate (w * w) CELLS 0 }

pub KeepsNumbers-empty : (w : ℕ) → 3 ≤ w → w ≤ 9 → KeepsNumbers w (replicate CELLS 0)
KeepsNumbers-empty w low high = record {
  smallest = low;
  largest = high;
  padded = IsPadded-empty w;
  within = All-replicate (λ n. n ≤ w) CELLS 0 (omega arith);
}

pub KeepsMarks-empty : (w : ℕ) → KeepsMarks w (replicate CELLS 0) no_numbers
KeepsMarks-empty w = record {
  padded = IsPadded-empty w;
  within = All-replicate (IsMarkSet w) CELLS 0 (record { each = λ n h. absurd (false≢true (sym (has_number-none n) ∙ h)) });
  done_within = λ place h. absurd (false≢true (sym (has_number-none place) ∙ h));
}

-- the squares of an empty list are empty
pub take_empty : (w : ℕ) → w ≤ 9 → take {A = ℕ} (w * w) (replicate CELLS 0) ≡ replicate (w * w) 0
take_empty w high = take-replicate (w * w) CELLS 0 (mul-le w w 9 9 high high)

use Rattle.std.proofs.Common.{◌≡◌, ◌≤◌, map, take}
use Rattle.arrayvec.specs.ArrayVec.{array_vec_len}
use Rattle.line_replies.proofs.draw.symbols.grid_digits.Given as goal
use Rattle.byte_text.specs.Bytes.{digit}

abbrev pub invariant-loop-cell : goal.invariant-loop-cell
invariant-loop-cell l = (l.digits.items ≡ map digit (take l.cell l.grid.numbers)) × (array_vec_len l.digits ≤ l.cell)

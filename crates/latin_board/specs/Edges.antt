-- The places of the edge clues round a grid of width w, numbered from 0 to 4w - 1: above the columns, below them, left
-- of the rows, right of them.
use Rattle.std.specs.Prelude.{ℕ, zero, ◌+◌, ◌-◌, ◌*◌, ◌==◌, ◌&&◌, nat_lt, if◌then◌else◌, ℤ, pos, negsuc, Option, Some, None}

-- the place at (x, y), where the squares have x and y from 0 to w - 1; `negsuc zero` is -1
abbrev pub edge_place : ℕ → ℤ → ℤ → Option ℕ
edge_place w (pos x) (negsuc zero) = if nat_lt x w then Some x else None
edge_place w (pos x) (pos y) =
    if nat_lt x w && (y == w) then Some (w + x) else (if nat_lt y w && (x == w) then Some (3 * w + y) else None)
edge_place w (negsuc zero) (pos y) = if nat_lt y w then Some (2 * w + y) else None
edge_place w _ _ = None

-- where a place is
abbrev pub edge_xy : ℕ → ℕ → ℤ × ℤ
edge_xy w place =
    if nat_lt place w then (pos place, negsuc zero)
    else (if nat_lt place (2 * w) then (pos (place - w), pos w)
    else (if nat_lt place (3 * w) then (negsuc zero, pos (place - 2 * w))
    else (pos w, pos (place - 3 * w))))

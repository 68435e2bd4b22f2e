-- The number of an edge place leads back to that place.
use Rattle.std.proofs.lemmas.Bool.Decides.{nat_tests}
use Rattle.std.proofs.Common.{◌≡◌, ℕ, zero, ◌+◌, ◌*◌, ◌<◌, ℤ, pos, negsuc, Some, refl, arith}
use Rattle.std.specs.Prelude.{IfSome}
use Rattle.std.proofs.lemmas.Bool.{lt-ltb}
use Rattle.latin_board.specs.Edges.{edge_place, edge_xy}

-- where each side's places are
pub edge_xy-top : (w x : ℕ) → x < w → edge_xy w x ≡ (pos x, negsuc zero)
edge_xy-top w x low = rw (lt-ltb x w low) refl

pub edge_xy-bottom : (w x : ℕ) → x < w → edge_xy w (w + x) ≡ (pos x, pos w)
edge_xy-bottom w x low = grind (arith, nat_tests)

pub edge_xy-left : (w y : ℕ) → y < w → edge_xy w (2 * w + y) ≡ (negsuc zero, pos y)
edge_xy-left w y low = grind (arith, nat_tests)

pub edge_xy-right : (w y : ℕ) → y < w → edge_xy w (3 * w + y) ≡ (pos w, pos y)
edge_xy-right w y low = grind (arith, nat_tests)

-- the place that is found at (x, y) stands there, and is one of the four sides'
pub edge_xy-edge_place : (w : ℕ) (x y : ℤ) → IfSome (edge_place w x y) (λ place. (edge_xy w place ≡ (x, y)) × (place < 4 * w))
edge_xy-edge_place w x y = grind (arith, nat_tests, edge_xy-top, edge_xy-left, edge_xy-bottom, edge_xy-right)

-- a place that was found at (x, y) leads back to (x, y)
pub place_leads_back : (w : ℕ) (x y : ℤ) (place : ℕ) → edge_place w x y ≡ Some place → edge_xy w place ≡ (x, y)
place_leads_back w x y place is = grind (arith, nat_tests, edge_xy-edge_place)

-- a place that was found is one of the four sides'
pub place_is_within : (w : ℕ) (x y : ℤ) (place : ℕ) → edge_place w x y ≡ Some place → place < 4 * w
place_is_within w x y place is = grind (arith, nat_tests, edge_xy-edge_place)

-- The strikes of a given, as a set.
use Rattle.std.proofs.Common.{◌≡◌, ◌≢◌, ◌↔◌, ℕ, ◌*◌, ◌<◌, true, nat_le, ◌&&◌, ◌==◌, not, sym, ap, ◌∙◌, arith}
use Rattle.std.proofs.lemmas.Bool.{and_parts, and_from, eq-eqb, eqb-true, leb-true, le-leb}
use Rattle.number_sets.specs.Sets.{has_number}
use Rattle.trail_solver.specs.Pairs.{IsPair}
use Rattle.trail_solver.specs.Puzzles.{Puzzle}
use Rattle.line_steps.specs.Reasons.{IsByGiven}
use Rattle.line_steps.proofs.OtherNumbers.{has_rest}

-- the numbers of the size are those that make a pair with a square of the grid
pub up_to_pair : (w cell all v : ℕ) → cell < w * w → ((k : ℕ) → has_number all k ≡ (nat_le 1 k && nat_le k w))
    → (has_number all v ≡ true) ↔ IsPair w cell v
up_to_pair w cell all v inside members = (
  λ has.
      let both = and_parts (nat_le 1 v) (nat_le v w) (sym (members v) ∙ has) in
      record { inside = inside; low = leb-true 1 v both.0; high = leb-true v w both.1 },
  λ pair. members v ∙ and_from (nat_le 1 v) (nat_le v w) (le-leb 1 v pair.low) (le-leb v w pair.high),
)

-- the numbers of the size but for the given are what it strikes
pub given_struck : (p : Puzzle) (w at cell all one result given v : ℕ) → at ≡ cell → cell < w * w → given ≡ p.given cell → given ≢ 0
    → ((k : ℕ) → has_number all k ≡ (nat_le 1 k && nat_le k w)) → ((k : ℕ) → has_number one k ≡ (k == given))
    → ((n : ℕ) → has_number result n ≡ (has_number all n && not (has_number one n)))
    → (has_number result v ≡ true) ↔ (IsPair w cell v × IsByGiven p at cell v)
given_struck p w at cell all one result given v here inside is some members single rest =
    let pairs = up_to_pair w cell all v inside members in
    let other = has_rest all one result v rest in
    let there : given ≡ p.given at = is ∙ ap p.given (sym here) in (
      λ has. (
        pairs.0 (other.0 has).0,
        record {
          here = sym here;
          given = omega (arith, there, some);
          apart = λ same. (other.0 has).1 (single v ∙ eq-eqb v given (same ∙ sym there));
        },
      ),
      λ h. other.1 (pairs.1 h.0, λ has. h.1.apart (eqb-true v given (sym (single v) ∙ has) ∙ there)),
    )

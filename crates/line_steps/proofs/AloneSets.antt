-- The values but for which nothing is left of a square, and what rows and columns strike.
use Rattle.std.proofs.lemmas.Bool.Decides.{nat_tests}
use Rattle.std.proofs.Common.{◌≡◌, ◌↔◌, ℕ, ◌*◌, ◌<◌, ◌≤◌, true, nat_le, ◌&&◌, ◌==◌, not, sym, ◌∙◌, arith}
use Rattle.std.proofs.lemmas.Bool.{both_ways, eq-eqb, eqb-true}
use Rattle.number_sets.specs.Sets.{has_number, IsEmpty}
use Rattle.latin_board.specs.Lines.{ArePeers, line_cell}
use Rattle.trail_solver.specs.Pairs.{IsPair}
use Rattle.trail_solver.specs.Candidates.{CandidatesValue, IsSetOf, IsOnly}
use Rattle.line_steps.specs.Left.{HasNoOther, HasNoOtherPlace}
use Rattle.line_steps.specs.Reasons.{IsByPeer, IsByPlace}
use Rattle.line_steps.proofs.GivenSets.{up_to_pair}
use Rattle.line_steps.proofs.OtherNumbers.{has_rest}

-- if nothing is left of a square, each value of the size is one but for which nothing is left
pub alone_none : (c : CandidatesValue) (cell set all v : ℕ) → cell < c.size * c.size → IsSetOf c cell set → IsEmpty set
    → ((k : ℕ) → has_number all k ≡ (nat_le 1 k && nat_le k c.size)) → (has_number all v ≡ true) ↔ (IsPair c.size cell v × HasNoOther c cell v)
alone_none c cell set all v inside is none members =
    let pairs = up_to_pair c.size cell all v inside members in
    (λ has. (pairs.0 has, λ other left. absurd (both_ways (has_number set other) (none other) ((is other).1 (left.pair, left.may)))), λ h. pairs.1 h.0)

-- if one value is left of a square, its set has just the value but for which nothing is left
pub alone_one : (c : CandidatesValue) (cell set one v : ℕ) → cell < c.size * c.size → IsSetOf c cell set → IsOnly c cell one
    → (has_number set v ≡ true) ↔ (IsPair c.size cell v × HasNoOther c cell v)
alone_one c cell set one v inside is only = grind (arith, nat_tests)

-- if several values are left of a square, no value is one but for which nothing is left
pub alone_several : (c : CandidatesValue) (cell set v : ℕ) → cell < c.size * c.size → IsSetOf c cell set → (n : ℕ) × (has_number set n ≡ true)
    → ((v : ℕ) → IsOnly c cell v → ⊥) → HasNoOther c cell v → ⊥
alone_several c cell set v inside is some several none =
    let left = (is some.0).0 some.1 in
    let same : some.0 ≡ v = none some.0 (record { pair = left.0; may = left.1 }) in
    several some.0 (record {
      low = left.0.low;
      high = left.0.high;
      left = left.1;
      alone = λ other low high may. none other (record { pair = record { inside = inside; low = low; high = high }; may = may }) ∙ sym same;
    })

-- the values but for which nothing is left of a square are those that it strikes in its row and column
pub peer_struck : (c : CandidatesValue) (by cell result v : ℕ) → ArePeers c.size by cell
    → ((v : ℕ) → (has_number result v ≡ true) ↔ (IsPair c.size by v × HasNoOther c by v))
    → (has_number result v ≡ true) ↔ (IsPair c.size cell v × IsByPeer c.size c by cell v)
peer_struck c by cell result v peers is = (
  λ has.
      let h = (is v).0 has in
      (record { inside = peers.second; low = h.0.low; high = h.0.high }, record { peers = peers; alone = h.1 }),
  λ h. (is v).1 (record { inside = peers.first; low = h.0.low; high = h.0.high }, h.1.alone),
)

-- if a square is the last place of a value in a line, all other values of the size are struck there
pub place_struck : (c : CandidatesValue) (line index other cell all one result v : ℕ) → line < 2 * c.size → index < c.size → 1 ≤ other
    → other ≤ c.size → cell < c.size * c.size → cell ≡ line_cell c.size line index → HasNoOtherPlace c line other index
    → ((k : ℕ) → has_number all k ≡ (nat_le 1 k && nat_le k c.size)) → ((k : ℕ) → has_number one k ≡ (k == other))
    → ((n : ℕ) → has_number result n ≡ (has_number all n && not (has_number one n)))
    → (has_number result v ≡ true) ↔ (IsPair c.size cell v × IsByPlace c.size c line index other cell v)
place_struck c line index other cell all one result v line_is index_is low high inside here alone members single rest =
    let pairs = up_to_pair c.size cell all v inside members in
    let left = has_rest all one result v rest in (
      λ has. (
        pairs.0 (left.0 has).0,
        record {
          line_is = line_is;
          index_is = index_is;
          low = low;
          high = high;
          here = here;
          apart = λ same. (left.0 has).1 (single v ∙ eq-eqb v other same);
          alone = alone;
        },
      ),
      λ h. left.1 (pairs.1 h.0, λ has. h.1.apart (eqb-true v other (sym (single v) ∙ has))),
    )

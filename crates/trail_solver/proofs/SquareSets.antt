-- A square by the set of its candidates.
use Rattle.std.proofs.Common.{arith}
use Rattle.std.proofs.lemmas.Bool.Decides.{nat_tests}
use Rattle.std.proofs.Common.{ℕ, ◌*◌, ◌<◌, Option, Some, None}
use Rattle.std.specs.Prelude.{MatchOption}
use Rattle.std.proofs.lemmas.Bool.{false_from_ne_true}
use Rattle.number_sets.specs.Sets.{IsEmpty, IsLeast, IsSingle}
use Rattle.trail_solver.specs.Candidates.{CandidatesValue, IsSetOf, IsOnly}
use Rattle.trail_solver.specs.Inner.Squares.{HasNoCandidate, IsBranch, IsOpenSquare}

only_from_single : (c : CandidatesValue) (cell set value : ℕ) → cell < c.size * c.size → IsSetOf c cell set → IsSingle set value
    → IsOnly c cell value
only_from_single c cell set value inside h single = grind (arith, nat_tests)

single_from_only : (c : CandidatesValue) (cell set value : ℕ) → cell < c.size * c.size → IsSetOf c cell set → IsOnly c cell value
    → IsSingle set value
single_from_only c cell set value inside h only = grind (arith, nat_tests)

-- the only candidate is the set's only number
pub only_by_single : (c : CandidatesValue) (cell set : ℕ) (found : Option ℕ) → cell < c.size * c.size → IsSetOf c cell set
    → MatchOption found ((v : ℕ) → IsSingle set v → ⊥) (IsSingle set) → MatchOption found ((v : ℕ) → IsOnly c cell v → ⊥) (IsOnly c cell)
only_by_single c cell set (Some v) inside h single = only_from_single c cell set v inside h single
only_by_single c cell set None inside h none = λ v only. none v (single_from_only c cell set v inside h only)

-- a number of an open square's set is a branch, and where the set is empty there is no candidate
pub lowest_by_least : (c : CandidatesValue) (cell set : ℕ) (found : Option ℕ) → IsOpenSquare c cell → IsSetOf c cell set
    → MatchOption found (IsEmpty set) (IsLeast set) → MatchOption found (HasNoCandidate c cell) (IsBranch c cell)
lowest_by_least c cell set found unsettled h least = grind (arith, nat_tests, false_from_ne_true)

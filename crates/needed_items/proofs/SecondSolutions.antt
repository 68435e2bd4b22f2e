-- Solutions beside the only one of a puzzle, once one of its items is gone.
use Rattle.std.proofs.Common.{arith}
use Rattle.std.proofs.lemmas.Bool.Decides.{nat_tests}
use Rattle.std.proofs.Common.{◌≡◌, ◌≢◌, Bool, true, false, [], refl, sym, ◌∙◌}
use Rattle.latin_board.specs.Squares.{GridValue}
use Rattle.latin_board.specs.Sameness.{same_grid, same_grid_decides}
use Rattle.trail_solver.specs.Candidates.{CandidatesValue, IsWithin}
use Rattle.trail_solver.specs.Puzzles.{Puzzle, Solves}
use Rattle.trail_solver.specs.Solutions.{Denies, HasNoOtherWithin, HasOtherWithin, HasSeveralSolutions, IsOnlySolution}

-- where no candidate went, each grid is within
within_all : (c : CandidatesValue) (g : GridValue) → c.trail ≡ [] → IsWithin c g
within_all c g none = record { each = λ cell inside. rw none refl }

-- another solution of the denied puzzle than the known one is a second one without the item
pub second_denied : (puzzle without denied : Puzzle) (old new : CandidatesValue) (g : GridValue) → Denies puzzle without denied old new
    → Solves without g → HasOtherWithin denied new g → HasSeveralSolutions without
second_denied puzzle without denied old new g denies solves second = grind (arith, nat_tests)

-- where the denied puzzle has no other solution, there is no second one without the item
pub none_denied : (puzzle without denied : Puzzle) (old new : CandidatesValue) (g : GridValue) → Denies puzzle without denied old new
    → old.trail ≡ [] → IsOnlySolution puzzle g → HasNoOtherWithin denied new g → HasSeveralSolutions without → ⊥
none_denied puzzle without denied old new g denies all only none two = grind (arith, nat_tests, within_all)

-- where a grid solves the puzzle and there aren't two, it is the only solution
pub only_of_not_two : (p : Puzzle) (g : GridValue) → Solves p g → (HasSeveralSolutions p → ⊥) → IsOnlySolution p g
only_of_not_two p g s single = record {
  solves = s;
  only = λ h t. same h (same_grid h g) refl (λ apart.
      single (record { one = h; other = g; one_solves = t; other_solves = s; differ = apart }));
}
  where
    same : (h : GridValue) (b : Bool) → same_grid h g ≡ b → ((h ≢ g) → ⊥) → h ≡ g
    same h true e single = (same_grid_decides h g).0 e
    same h false e single = absurd (single (λ is. (let there = (same_grid_decides h g).1 is in cc)))

-- where a grid is the only solution, there aren't two
pub not_two_of_only : (p : Puzzle) (g : GridValue) → IsOnlySolution p g → HasSeveralSolutions p → ⊥
not_two_of_only p g only two = two.differ (only.only two.one two.one_solves ∙ sym (only.only two.other two.other_solves))

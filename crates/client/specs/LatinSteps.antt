-- Fair games of Latin squares: the letters of the grades, and what is tried.
use Rattle.std.proofs.Common.{ℕ, ◌+◌, ◌*◌, ◌≤◌, Option, Some, None, arith}
use Rattle.line_steps.specs.declared.grade.Grade.{Grade}
use Rattle.line_steps.specs.declared.grade.Grade.TheVariants.{Latin, Easy, Hard}
use Rattle.fair_games.specs.declared.trial.Trial.{Trial}
use Rattle.fair_games.specs.declared.trial.Trial.TheVariants.{GivensAlone}
use Rattle.client.specs.Latin.{items_of}

-- easy games follow by rows and columns, and normal ones ask for groups of squares; the grade between has the same
-- steps as the first
abbrev pub latin_letter : Grade → Option ℕ
latin_letter Latin = Some 101
latin_letter Easy = None
latin_letter Hard = Some 110

-- the givens are tried, which are all items
abbrev pub latin_trial : Grade → Trial
latin_trial grade = GivensAlone

-- there is an item for each square
pub some_givens : (n : ℕ) → 3 ≤ n → n ≤ 9 → n * n ≤ items_of n
some_givens n low high = omega arith

-- beside the items of the squares there are no others, so there are 144 of these at most
pub no_marks : (n : ℕ) → 3 ≤ n → n ≤ 9 → items_of n ≤ n * n + 144
no_marks n low high = omega arith

-- The values that may stand in the squares from a clue, as rows of sets.
use Rattle.std.specs.Prelude.{◌≡◌, ℕ, ◌<◌, List, length, slice_index, ◌↔◌, ◌≤◌, true}
use Rattle.trail_solver.specs.Candidates.{CandidatesValue}
use Rattle.number_sets.specs.Sets.{has_number, IsEmpty}
use Rattle.trail_solver.specs.Pairs.{IsPair}
use Rattle.line_steps.specs.Views.{view_cell}
use Rattle.line_steps.specs.Left.{IsLeft}
use Rattle.towers_game.specs.Fillings.{Anything, Standing}
use Rattle.line_steps.specs.declared.grade.Grade.{Grade}
use Rattle.line_steps.specs.declared.grade.Grade.TheVariants.{Easy, Hard}
use Rattle.towers_game.specs.declared.towers.clue_rows.Look.{Look}
use Rattle.towers_game.specs.declared.towers.clue_rows.Look.TheVariants.{Alone, Stands, Marks}

-- what may stand in a square, by how a clue is looked at
abbrev pub May : Look → CandidatesValue → ℕ → ℕ → Type 0
May Alone c cell value = Anything cell value
May Stands c cell value = Standing c cell value
May Marks c cell value = IsLeft c cell value

-- the set is of the values that may stand in the square
abbrev pub IsMaySet : ℕ → (ℕ → ℕ → Type 0) → ℕ → ℕ → Type 0
IsMaySet w May cell set = (v : ℕ) → (has_number set v ≡ true) ↔ (IsPair w cell v × May cell v)

-- the k-th of the first n sets has what may stand in the k-th square from a place, and the others are empty
pub record AreMaySets (w : ℕ) (May : ℕ → ℕ → Type 0) (place n : ℕ) (sets : List ℕ) : Type 0 where
  pub count : length sets ≡ 9
  pub each : (k : ℕ) → k < n → IsMaySet w May (view_cell w place k) (slice_index sets k)
  pub rest : (k : ℕ) → n ≤ k → IsEmpty (slice_index sets k)

-- the least grade that looks at clues so
abbrev pub look_grade : Look → Grade
look_grade Alone = Easy
look_grade Stands = Easy
look_grade Marks = Hard

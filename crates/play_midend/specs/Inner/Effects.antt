-- The effect on a board of a move that isn't refused: on one square, or on the whole of it.
use Rattle.std.specs.Prelude.{◌≡◌, ◌*◌, ◌<◌, ◌≤◌, false, None}
use Rattle.latin_board.specs.Boards.{BoardValue}
use Rattle.trail_solver.specs.Puzzles.{Puzzle}
use Rattle.play_midend.specs.declared.moves.Move.{Move}
use Rattle.play_midend.specs.declared.step.Effect.{Effect}
use Rattle.play_midend.specs.declared.step.Effect.TheVariants.{Number, Mark, Whole}
use Rattle.play_midend.specs.Steps.{refusal_of, with_number, with_mark_flipped, moved, takes_memory}

-- the board after an effect
abbrev pub effect_on : Puzzle → BoardValue → Effect → BoardValue
effect_on p b (Number cell n) = with_number p b cell n
effect_on p b (Mark cell n) = with_mark_flipped b cell n
effect_on p b (Whole next) = next

-- the square and the number are the board's; a whole board has the size of this one
abbrev pub IsOfBoard : BoardValue → Effect → Type 0
IsOfBoard b (Number cell n) = (cell < b.size * b.size) × (n ≤ b.size)
IsOfBoard b (Mark cell n) = (cell < b.size * b.size) × (1 ≤ n) × (n ≤ b.size)
IsOfBoard b (Whole next) = next.size ≡ b.size

-- the effect is on one square alone
abbrev pub IsOfSquare : Effect → Type 0
IsOfSquare (Whole next) = ⊥
IsOfSquare _ = Unit {0}

-- the move isn't refused, and the effect is what it does to the board
pub record IsEffect (p : Puzzle) (b : BoardValue) (m : Move) (effect : Effect) : Type 0 where
  pub allowed : refusal_of p b m ≡ None
  pub made : effect_on p b effect ≡ moved p b m
  pub within : IsOfBoard b effect
  pub of_square : takes_memory m ≡ false → IsOfSquare effect

-- Hints that are played: the line that writes a hint's number, and where such lines lead.
use Rattle.std.specs.Prelude.{◌≡◌, ◌⊎◌, ℕ, ◌/◌, ◌%◌, List, [], ◌∷◌, ◌++◌, length, codes, Some, Err}
use Rattle.latin_board.specs.Squares.{GridValue}
use Rattle.latin_board.specs.Boards.{grid_of}
use Rattle.trail_solver.specs.Puzzles.{Solves}
use Rattle.play_midend.specs.declared.fault.PlayFault.TheVariants.{HistoryFull}
use Rattle.play_midend.specs.declared.moves.Move.TheVariants.{Real}
use Rattle.play_midend.specs.declared.session.TheConstants.{MOST_STATES}
use Rattle.play_midend.specs.MoveTexts.{move_text}
use Rattle.play_midend.specs.Histories.{History, IsSessionBoard, IsValid}
use Rattle.named_steps.specs.Chains.{goal_cell, goal_value}
use Rattle.named_steps.specs.Following.{Follows}
use Rattle.named_steps.specs.declared.goal.Goal.{Goal}
use Rattle.line_steps.specs.declared.grade.Grade.{Grade}
use Rattle.step_chains.specs.declared.chain.Chain.{Chain}
use Rattle.step_chains.specs.declared.hints.NextHint.{NextHint}
use Rattle.step_chains.specs.declared.hints.NextHint.TheVariants.{Follows as Found}
use Rattle.step_chains.specs.NextHints.{IsHint}
use Rattle.line_replies.specs.declared.reply.refusal.Refusal.TheVariants.{Play, Memory}
use Rattle.line_replies.specs.Lines.{Line}
use Rattle.line_replies.specs.GameFacts.{GameFacts}
use Rattle.line_replies.specs.SessionReplies.{Outcome, text_outcome, ok_line, shown_board}
use Rattle.line_replies.specs.Replies.{LineGives}
use Rattle.json_replies.specs.FairLaws.{IsWrongAt, with_hinted, empty_count}
use Rattle.json_replies.specs.FurtherLines.{BoardFacts}

-- the line `move Rx,y,n` that writes the number of a goal into its square, on a board of width w
abbrev pub goal_line : ℕ → Goal → Line
goal_line w goal =
    Some (codes "move " ++ move_text (Real (goal_cell w goal % w) (goal_cell w goal / w) (goal_value goal)))

-- the hint is one of the board that the session shows
abbrev pub IsHintOf : {P : Type 0} → GameFacts P → BoardFacts P → History P → NextHint → Type 0
IsHintOf f b h hint = IsHint (f.rules.puzzle h.puzzle) (b.struck_by h.puzzle) (grid_of (shown_board f h)) hint

-- the second session is of the same puzzle, and its board has the first one's numbers and that of the hint
pub record HasHinted {P : Type 0} (f : GameFacts P) (hint : NextHint) (old new : History P) : Type 0 where
  pub valid : IsValid (f.rules.puzzle new.puzzle) new
  pub puzzle : new.puzzle ≡ old.puzzle
  pub numbers : grid_of (shown_board f new) ≡ with_hinted (grid_of (shown_board f old)) hint

-- The line that writes the number of a hint is answered by `ok`, and that number is then on the board. It is refused for
-- want of memory, and at the last position that a history has, alone.
abbrev pub HintLinesWrite : {P : Type 0} → GameFacts P → BoardFacts P → Type 0
HintLinesWrite {P} f b =
    (h : History P) (grade : Grade) (chain : Chain) (outcome : Outcome P) → let p = f.rules.puzzle h.puzzle in
    IsValid p h → IsSessionBoard p.size (shown_board f h) → IsHintOf f b h (Found grade chain)
    → LineGives f (Some h) (goal_line (shown_board f h).size chain.goal) outcome
    → ((next : History P) × (outcome ≡ text_outcome next ok_line) × HasHinted f (Found grade chain) h next)
    ⊎ (outcome ≡ Err Memory) ⊎ ((h.position ≡ MOST_STATES) × (outcome ≡ Err (Play HistoryFull)))

-- hints in turn, each of the board that is shown, and a number that the next line writes and isn't refused; and the
-- session in the end
abbrev pub AreHintsPlayed : {P : Type 0} → GameFacts P → BoardFacts P → History P → List NextHint → History P → Type 0
AreHintsPlayed f b h [] last = last ≡ h
AreHintsPlayed {P} f b h (Found grade chain ∷ hints) last =
    IsHintOf f b h (Found grade chain)
    × ((next : History P) × LineGives f (Some h) (goal_line (shown_board f h).size chain.goal) (text_outcome next ok_line)
    × AreHintsPlayed f b next hints last)
AreHintsPlayed f b h (hint ∷ hints) last = ⊥

-- Where a solution follows by a grade and no square of the board is wrong, as many hints as squares are empty, played one
-- after another, leave the solution on the board.
abbrev pub PlayedHintsSolve : {P : Type 0} → GameFacts P → BoardFacts P → Type 0
PlayedHintsSolve {P} f b =
    (h last : History P) (grade : Grade) (s : GridValue) (hints : List NextHint) → let p = f.rules.puzzle h.puzzle in
    let g = grid_of (shown_board f h) in
    IsValid p h → IsSessionBoard p.size (shown_board f h) → Solves p s → Follows (b.struck_by h.puzzle) grade s
    → ((wrong : ℕ) → IsWrongAt g s wrong → ⊥) → AreHintsPlayed f b h hints last → length hints ≡ empty_count g
    → grid_of (shown_board f last) ≡ s

-- The lines that write the numbers of hints, and where they lead.
use Rattle.std.proofs.Common.{◌≡◌, ◌⊎◌, ℕ, ◌+◌, ◌*◌, ◌/◌, ◌%◌, ◌<◌, ◌≤◌, Bool, cond, List, [], ◌∷◌, set, Option, Some, None, Result, Ok, Err, refl, sym, ap, ◌∙◌, subst, arith, inl, inr}
use Rattle.std.proofs.lemmas.Bool.{cases_eq, lt-ltb, le-ltb, eq-eqb, ne_eqb}
use Rattle.std.proofs.lemmas.Nat.{div-add-mod'}
use Rattle.std.proofs.Math.Nat.{div-lt_iff_lt-mul, mod-lt}
use Rattle.std.specs.Option.{option_map_or, option_or}
use Rattle.latin_board.specs.Squares.{GridValue, number_at}
use Rattle.latin_board.specs.Boards.{grid_of}
use Rattle.trail_solver.specs.Puzzles.{Puzzle}
use Rattle.play_midend.specs.declared.fault.PlayFault.{PlayFault}
use Rattle.play_midend.specs.declared.fault.PlayFault.TheVariants.{HistoryFull, OutOfMemory}
use Rattle.play_midend.specs.declared.moves.Move.{Move}
use Rattle.play_midend.specs.declared.moves.Move.TheVariants.{Real}
use Rattle.play_midend.specs.declared.session.TheConstants.{MOST_STATES}
use Rattle.play_midend.specs.MoveTexts.{IsMoveText, move_text}
use Rattle.play_midend.specs.Steps.{cell_of, entry_refusal, unless_refused}
use Rattle.play_midend.specs.Histories.{History, IsValid, IsRefusal, shown, refusal_in, full_refusal, with_move, played}
use Rattle.play_midend.specs.Laws
use Rattle.play_midend.proofs.GivenSquares.{givens_stay}
use Rattle.play_midend.proofs.PlayedMoves.{played_puzzle, shown_played}
use Rattle.play_midend.proofs.SessionLaws.{valid_called}
use Rattle.named_steps.specs.Chains.{goal_cell, goal_value}
use Rattle.named_steps.specs.declared.goal.Goal.{Goal}
use Rattle.line_steps.specs.declared.grade.Grade.{Grade}
use Rattle.step_chains.specs.declared.chain.Chain.{Chain}
use Rattle.step_chains.specs.declared.hints.NextHint.{NextHint}
use Rattle.step_chains.specs.declared.hints.NextHint.TheVariants.{Follows as Found}
use Rattle.line_replies.specs.declared.reply.refusal.Refusal.TheVariants.{Play as OfPlay, Memory}
use Rattle.line_replies.specs.Refusals.{play_refusal}
use Rattle.line_replies.specs.GameFacts.{GameFacts}
use Rattle.line_replies.specs.SessionReplies.{Outcome, text_outcome, ok_line, shown_board}
use Rattle.line_replies.specs.Replies.{LineGives, left}
use Rattle.line_replies.specs.RunLaws.{AnswersCall}
use Rattle.line_replies.proofs.CallReplies.{move_answered}
use Rattle.json_replies.specs.FairLaws.{HintsLeadToTheEnd, AreHintsInTurn}
use Rattle.json_replies.specs.FurtherLines.{BoardFacts}
use Rattle.json_replies.specs.HintLines.{goal_line, IsHintOf, HasHinted, HintLinesWrite, AreHintsPlayed, PlayedHintsSolve}
use Rattle.json_replies.proofs.HintsToEnd.{goal_inside, goal_low}

-- the move that writes the number of a goal into its square
abbrev entry : ℕ → Goal → Move
entry w goal = Real (goal_cell w goal % w) (goal_cell w goal / w) (goal_value goal)

-- column and row of a square of a grid are below the width
square_at : (w cell : ℕ) → cell < w * w → 1 ≤ w → (cell % w < w) × (cell / w < w)
square_at w cell inside some = (mod-lt cell some, (div-lt_iff_lt-mul some).1 inside)

-- the move of a goal has a text
spelled : (w : ℕ) (goal : Goal) → 1 ≤ w → w ≤ 9 → goal_cell w goal < w * w → goal_value goal ≤ w
    → IsMoveText (entry w goal) (move_text (entry w goal))
spelled w goal some small inside high =
    let at = square_at w (goal_cell w goal) inside some in
    let column = at.0 in
    let row = at.1 in
    record {
      writable = record { x_is = omega (arith, column, small); y_is = omega (arith, row, small); n_is = omega (arith, high, small) };
      spelled = refl;
    }

-- a number in a square of the grid that isn't given is not refused
entry_allowed : (p : Puzzle) (w : ℕ) (goal : Goal) → w ≡ p.size → 1 ≤ w → goal_cell w goal < w * w → goal_value goal ≤ w
    → p.given (goal_cell w goal) ≡ 0 → entry_refusal p (goal_cell w goal % w) (goal_cell w goal / w) (goal_value goal) ≡ None
entry_allowed p w goal same some inside high free =
    let cell = goal_cell w goal in
    let at = square_at w cell inside some in
    let column : cell % w < p.size = subst (λ (s : ℕ). cell % w < s) same at.0 in
    let row : cell / w < p.size = subst (λ (s : ℕ). cell / w < s) same at.1 in
    let number : goal_value goal ≤ p.size = subst (λ (s : ℕ). goal_value goal ≤ s) same high in
    let back : cell_of p.size (cell % w) (cell / w) ≡ cell = ap (λ (s : ℕ). cell / w * s + cell % w) (sym same) ∙ div-add-mod' cell w in
    rw (
      lt-ltb (cell % w) p.size column,
      lt-ltb (cell / w) p.size row,
      le-ltb p.size (goal_value goal) number,
      eq-eqb (p.given (cell_of p.size (cell % w) (cell / w))) 0 (ap p.given back ∙ free),
    ) refl

-- what refuses a call that only a full history refuses: memory, or that
full_or_memory : {P : Type 0} (k : History P) (position : ℕ) (fault : PlayFault) → IsRefusal (unless_refused (full_refusal position) k) fault
    → (fault ≡ OutOfMemory) ⊎ ((position ≡ MOST_STATES) × (fault ≡ HistoryFull))
full_or_memory {P} k position fault why = elim (cases_eq position MOST_STATES) [
  | inl full ↦ elim (by_full fault (subst (λ (t : Bool). IsRefusal (unless_refused (cond t (Some HistoryFull) None) k) fault)
      (eq-eqb position MOST_STATES full) why)) [
        | inl memory ↦ inl memory
        | inr is ↦ inr (full, is)
      ]
  | inr room ↦ inl (by_ok fault (subst (λ (t : Bool). IsRefusal (unless_refused (cond t (Some HistoryFull) None) k) fault)
      (ne_eqb position MOST_STATES room) why))
]
  where
    by_full : (fault : PlayFault) → IsRefusal {A = History P} (Err HistoryFull) fault → (fault ≡ OutOfMemory) ⊎ (fault ≡ HistoryFull)
    by_full OutOfMemory why = inl refl
    by_full fault why = inr cc

    by_ok : (fault : PlayFault) → IsRefusal (Ok k) fault → fault ≡ OutOfMemory
    by_ok OutOfMemory why = refl
    by_ok fault why = cc

module _ {P : Type 0} (f : GameFacts P) (h : History P) (m : Move) where
  -- if the call is told by `ok`, the move was played
  pub played_so : (next : History P) → AnswersCall f h (Laws.Play m) (text_outcome next ok_line) → played (f.rules.puzzle h.puzzle) h m ≡ Ok next
  played_so next (Ok u, new, gives, (text, made, is)) =
      let session : Outcome P → History P = λ outcome. option_map_or (λ k. k) (left (Some h) outcome) h in
      sym gives ∙ ap (λ (outcome : Outcome P). Ok (session outcome)) (sym is)
  played_so next (Err fault, new, why, told) = cc

module _ {P : Type 0} (f : GameFacts P) (b : BoardFacts P) (h : History P) (grade : Grade) (chain : Chain)
    (valid : IsValid (f.rules.puzzle h.puzzle) h) (size : (shown_board f h).size ≡ (f.rules.puzzle h.puzzle).size)
    (low : 3 ≤ (shown_board f h).size) (small : (shown_board f h).size ≤ 9) (hint : IsHintOf f b h (Found grade chain)) where
  -- the move of the hint
  abbrev hinted : Move
  hinted = entry (shown_board f h).size chain.goal

  inside : goal_cell (shown_board f h).size chain.goal < (shown_board f h).size * (shown_board f h).size
  inside = goal_inside (shown_board f h).size chain.goal hint.is_hint.least.0.goal_of

  high : goal_value chain.goal ≤ (shown_board f h).size
  high = (goal_low (shown_board f h).size chain.goal hint.is_hint.least.0.goal_of).1

  -- once the move is played the number of the hint is on the board
  pub hint_played : (next : History P) → played (f.rules.puzzle h.puzzle) h hinted ≡ Ok next → HasHinted f (Found grade chain) h next
  hint_played next is =
      let p = f.rules.puzzle h.puzzle in
      let board = shown p h in
      let cell = goal_cell board.size chain.goal in
      let puzzle = played_puzzle p h next hinted is in
      let back : cell_of p.size (cell % board.size) (cell / board.size) ≡ cell =
      ap (λ (s : ℕ). cell / board.size * s + cell % board.size) (sym size) ∙ div-add-mod' cell board.size in
      record {
        valid = subst (λ (q : P). IsValid (f.rules.puzzle q) next) (sym puzzle) (valid_called p h next (Laws.Play hinted) valid (sym is));
        puzzle = puzzle;
        numbers =
            ap (λ (q : P). grid_of (shown (f.rules.puzzle q) next)) puzzle ∙ ap grid_of (shown_played p h next hinted valid is)
            ∙ ap (λ (c : ℕ). record { size = board.size; numbers = set board.numbers c (goal_value chain.goal) }) back;
      }

  -- the line is answered by the call of the move
  pub hint_answered : (outcome : Outcome P) → LineGives f (Some h) (goal_line (shown_board f h).size chain.goal) outcome
      → AnswersCall f h (Laws.Play hinted) outcome
  hint_answered outcome gives =
      move_answered f h hinted (move_text hinted) outcome (spelled (shown_board f h).size chain.goal (omega (arith, low)) small inside high) gives

  -- the square of the hint isn't given
  free : (f.rules.puzzle h.puzzle).given (goal_cell (shown_board f h).size chain.goal) ≡ 0
  free =
      let p = f.rules.puzzle h.puzzle in
      let cell = goal_cell (shown_board f h).size chain.goal in
      let empty : number_at (grid_of (shown p h)) cell ≡ 0 = hint.is_hint.least.0.empty in
      elim (cases_eq (p.given cell) 0) [
        | inl none ↦ none
        | inr some ↦
            let stands = givens_stay f.rules.puzzle h valid cell (subst (λ (s : ℕ). cell < s * s) size inside) (omega (arith, some)) in
            absurd (omega (arith, some, stands, empty))
      ]

  -- only a full history refuses the move
  full_alone : refusal_in (f.rules.puzzle h.puzzle) h hinted ≡ full_refusal h.position
  full_alone =
      ap (λ (o : Option PlayFault). option_or o (full_refusal h.position))
      (entry_allowed (f.rules.puzzle h.puzzle) (shown_board f h).size chain.goal size (omega (arith, low)) inside high free)

  pub hint_told : (outcome : Outcome P) → AnswersCall f h (Laws.Play hinted) outcome
      → ((next : History P) × (outcome ≡ text_outcome next ok_line) × HasHinted f (Found grade chain) h next)
      ⊎ (outcome ≡ Err Memory) ⊎ ((h.position ≡ MOST_STATES) × (outcome ≡ Err (OfPlay HistoryFull)))
  hint_told outcome (Ok u, new, gives, (text, made, is)) =
      inl (new, is ∙ ap (text_outcome new) made, hint_played new (sym gives))
  hint_told outcome (Err fault, new, (stays, (exact, gives, why)), told) =
      let p = f.rules.puzzle h.puzzle in
      let so : exact ≡ unless_refused (full_refusal h.position) (with_move h hinted) =
      gives ∙ ap (λ (o : Option PlayFault). unless_refused o (with_move h hinted)) full_alone in
      elim (full_or_memory (with_move h hinted) h.position fault (subst (λ (r : Result (History P) PlayFault). IsRefusal r fault) so why)) [
        | inl memory ↦ inr (inl (told ∙ ap (λ (e : PlayFault). Err (play_refusal e)) memory))
        | inr (full, is) ↦ inr (inr (full, told ∙ ap (λ (e : PlayFault). Err (play_refusal e)) is))
      ]

module _ {P : Type 0} (f : GameFacts P) (b : BoardFacts P) where
  pub hint_lines_write : HintLinesWrite f b
  hint_lines_write h grade chain outcome valid board hint gives =
      hint_told f b h grade chain valid board.size board.board.is_grid.smallest board.board.is_grid.largest hint outcome
      (hint_answered f b h grade chain valid board.size board.board.is_grid.smallest board.board.is_grid.largest hint outcome gives)

  -- hints that are played are hints in turn of the boards that are shown
  in_turn : (h last : History P) (hints : List NextHint) → IsValid (f.rules.puzzle h.puzzle) h
      → (shown_board f h).size ≡ (f.rules.puzzle h.puzzle).size → 3 ≤ (shown_board f h).size → (shown_board f h).size ≤ 9
      → AreHintsPlayed f b h hints last
      → AreHintsInTurn (f.rules.puzzle h.puzzle) (b.struck_by h.puzzle) (grid_of (shown_board f h)) hints (grid_of (shown_board f last))
  in_turn h last [] valid size low small is = ap (λ (k : History P). grid_of (shown_board f k)) is
  in_turn h last (Found grade chain ∷ hints) valid size low small (hint, (next, gives, rest)) =
      let answers = hint_answered f b h grade chain valid size low small hint (text_outcome next ok_line) gives in
      let made = hint_played f b h grade chain valid size low small hint next (played_so f h (entry (shown_board f h).size chain.goal) next answers) in
      let same : (shown_board f next).size ≡ (shown_board f h).size = ap (λ (g : GridValue). g.size) made.numbers in
      let again : (shown_board f next).size ≡ (f.rules.puzzle next.puzzle).size =
      same ∙ size ∙ ap (λ (q : P). (f.rules.puzzle q).size) (sym made.puzzle) in
      let more = in_turn next last hints made.valid again (omega (arith, same, low)) (omega (arith, same, small)) rest in (
        hint,
        subst (λ (g : GridValue). AreHintsInTurn (f.rules.puzzle h.puzzle) (b.struck_by h.puzzle) g hints (grid_of (shown_board f last))) made.numbers
            (subst (λ (q : P). AreHintsInTurn (f.rules.puzzle q) (b.struck_by q) (grid_of (shown_board f next)) hints (grid_of (shown_board f last)))
            made.puzzle more),
      )
  in_turn h last (hint ∷ hints) valid size low small none = absurd none

  pub played_hints_solve : HintsLeadToTheEnd f b → PlayedHintsSolve f b
  played_hints_solve lead h last grade s hints valid board solves follows right made all =
      let grid = board.board.is_grid in
      (lead h.puzzle grade s (grid_of (shown_board f h)) (grid_of (shown_board f last)) hints solves follows grid (board.size ∙ sym solves.same_size)
      right (in_turn h last hints valid board.size grid.smallest grid.largest made) (omega (arith, all))).1 all
